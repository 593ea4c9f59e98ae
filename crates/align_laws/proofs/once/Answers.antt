use Rattle.align_laws.proofs.FlatGood.{flat_is_good}
use Rattle.align_laws.proofs.Held.{one_held, lower_calls}
use Rattle.align_laws.proofs.Unique.{one_list, one_number}
use Rattle.align_laws.proofs.once.Goals as goal

pub returns-clause-flat : goal.returns-clause-flat
returns-clause-flat c = one_list

pub returns-clause-number : goal.returns-clause-number
returns-clause-number c = one_number

pub returns-clause-held : goal.returns-clause-held
returns-clause-held c = one_held

pub returns-clause-lower : goal.returns-clause-lower
returns-clause-lower c = lower_calls

pub returns-clause-good : goal.returns-clause-good
returns-clause-good c = flat_is_good
