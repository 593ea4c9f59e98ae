use Rattle.std.proofs.Common.{take}
use Rattle.net_walk.proofs.pushes.push_moved.Given as goal
use Rattle.net_walk.specs.Walk.{AddsPieces, IsOfMoved}

abbrev pub invariant-loop-piece : goal.invariant-loop-piece
invariant-loop-piece l = AddsPieces l.window (IsOfMoved l.motion (take l.piece-index l.pieces) l.net_of l.at) l.fn.out.items l.out.items
