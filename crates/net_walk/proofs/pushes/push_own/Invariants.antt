use Rattle.net_walk.proofs.Adding.{IsOfNear}
use Rattle.net_walk.proofs.pushes.push_own.Given as goal
use Rattle.net_walk.specs.Walk.{AddsPieces}

abbrev pub invariant-loop-r : goal.invariant-loop-r
invariant-loop-r l = AddsPieces l.window (IsOfNear l.window l.own l.net_of l.at l.near l.r-index) l.fn.out.items l.out.items
