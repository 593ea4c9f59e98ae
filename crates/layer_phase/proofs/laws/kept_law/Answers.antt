use Rattle.layer_phase.proofs.Telling.{kept}
use Rattle.layer_phase.proofs.laws.kept_law.Goals as goal

pub returns : goal.returns
returns c = kept
