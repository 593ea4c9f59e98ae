use Rattle.fixed_num.proofs.Choices.{one_value, one_area}
use Rattle.fixed_num.proofs.value.value_laws.Goals as goal

pub returns : goal.returns
returns c = record { one = one_value; one_area = one_area }
