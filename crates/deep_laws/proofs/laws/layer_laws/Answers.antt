use Rattle.deep_laws.proofs.Layers.{candidate, below}
use Rattle.deep_laws.proofs.laws.layer_laws.Goals as goal

pub returns : goal.returns
returns c = record { candidate = candidate; below = below }
