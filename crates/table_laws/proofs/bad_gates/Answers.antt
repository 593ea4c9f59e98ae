use Rattle.table_laws.proofs.Badness.{bad_listed, no_bad, one_bad}
use Rattle.table_laws.proofs.bad_gates.Goals as goal

pub returns : goal.returns
returns c = record { listed = bad_listed; one = one_bad; none = no_bad }
