use Rattle.further_layers.proofs.Building.{further_law}
use Rattle.further_layers.proofs.laws.Goals as goal

pub returns : goal.returns
returns c = further_law
