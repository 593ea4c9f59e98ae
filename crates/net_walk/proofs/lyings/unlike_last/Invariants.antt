use Rattle.std.proofs.Common.{[], take}
use Rattle.net_walk.proofs.lyings.unlike_last.Given as goal
use Rattle.net_walk.specs.Alike.{IsLain}
use Rattle.touching_pieces.specs.Pairs.{AddsLinks}

abbrev pub invariant-loop-lying : goal.invariant-loop-lying
invariant-loop-lying l = AddsLinks (IsLain (take l.lying-index l.lyings)) [] l.out.items
