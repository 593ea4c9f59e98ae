use Rattle.gds_elements.proofs.WholeText.{derived}
use Rattle.gds_elements.proofs.laws.derived.Goals as goal

pub returns : goal.returns
returns c = derived
