use Rattle.flat_laws.proofs.OneNet.{regions, one_parent}
use Rattle.flat_laws.proofs.Squares.{touch_moved}
use Rattle.flat_laws.proofs.nets.Goals as goal

pub returns : goal.returns
returns c = record { touch = touch_moved; region = regions; parent = one_parent }
