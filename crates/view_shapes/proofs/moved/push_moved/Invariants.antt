use Rattle.std.proofs.Common.{take}
use Rattle.view_shapes.specs.Pieces.{AddsPieces, IsOfMoved}
use Rattle.view_shapes.proofs.moved.push_moved.Given as goal

abbrev pub invariant-loop-piece : goal.invariant-loop-piece
invariant-loop-piece l = AddsPieces (IsOfMoved l.motion (take l.piece-index l.pieces) l.net_of l.at) l.fn.out.items l.out.items
