use Rattle.sized_layers.proofs.Sizing.{shrink}
use Rattle.sized_layers.proofs.sizes.shrinking.Goals as goal

pub returns : goal.returns
returns c = shrink
