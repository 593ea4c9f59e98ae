use Rattle.flat_laws.proofs.Same.{same_gate}
use Rattle.flat_laws.proofs.Judged.{not_both, one_cause, along_path}
use Rattle.flat_laws.proofs.verdicts.Goals as goal

pub returns : goal.returns
returns c = record { not_both = not_both; one = one_cause; same = same_gate; along = along_path }
