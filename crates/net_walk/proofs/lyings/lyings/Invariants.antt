use Rattle.std.proofs.Common.{take}
use Rattle.net_walk.proofs.lyings.lyings.Given as goal
use Rattle.net_walk.specs.Alike.{AreLain}

abbrev pub invariant-loop-pair : goal.invariant-loop-pair
invariant-loop-pair l = AreLain (take l.pair-index l.pairs) l.out.items
