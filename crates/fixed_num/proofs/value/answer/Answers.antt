use Rattle.fixed_num.specs.Scan.{number_of}
use Rattle.fixed_num.proofs.Choices.{length_ok, length_err}
use Rattle.fixed_num.proofs.value.answer.Goals as goal

pub returns-in-Ok : goal.returns-in-Ok
returns-in-Ok c = length_ok (number_of c.args.text.now) c.raised_answer.result c.in-Ok.length c.in-Ok.is c.raised_answer.ensures

pub returns-in-Err : goal.returns-in-Err
returns-in-Err c = length_err (number_of c.args.text.now) c.raised_answer.result c.in-Err.fault c.in-Err.is c.raised_answer.ensures
