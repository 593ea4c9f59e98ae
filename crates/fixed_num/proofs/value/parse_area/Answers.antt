use Rattle.fixed_num.proofs.Choices.{area, no_area, large_area, fine_area}
use Rattle.fixed_num.proofs.value.parse_area.Goals as goal

pub returns-clause-value : goal.returns-clause-value
returns-clause-value c = area c.args.text.now c.raised_answer.result c.raised_answer.ensures

pub returns-clause-not_number : goal.returns-clause-not_number
returns-clause-not_number c = no_area c.args.text.now c.raised_answer.result c.raised_answer.ensures

pub returns-clause-too_large : goal.returns-clause-too_large
returns-clause-too_large c = large_area c.args.text.now c.raised_answer.result c.raised_answer.ensures

pub returns-clause-too_fine : goal.returns-clause-too_fine
returns-clause-too_fine c = fine_area c.args.text.now c.raised_answer.result c.raised_answer.ensures
