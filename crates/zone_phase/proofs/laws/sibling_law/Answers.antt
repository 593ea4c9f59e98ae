use Rattle.zone_phase.proofs.Around.{sibling}
use Rattle.zone_phase.proofs.laws.sibling_law.Goals as goal

pub returns : goal.returns
returns c = sibling
