use Rattle.fixed_num.proofs.Choices.{value, not_number, too_large, too_fine}
use Rattle.fixed_num.proofs.value.parse_value.Goals as goal

pub returns-clause-value : goal.returns-clause-value
returns-clause-value c = value c.args.text.now c.answer.result c.answer.ensures

pub returns-clause-not_number : goal.returns-clause-not_number
returns-clause-not_number c = not_number c.args.text.now c.answer.result c.answer.ensures

pub returns-clause-too_large : goal.returns-clause-too_large
returns-clause-too_large c = too_large c.args.text.now c.answer.result c.answer.ensures

pub returns-clause-too_fine : goal.returns-clause-too_fine
returns-clause-too_fine c = too_fine c.args.text.now c.answer.result c.answer.ensures
