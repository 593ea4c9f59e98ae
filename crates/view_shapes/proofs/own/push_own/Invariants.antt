use Rattle.view_shapes.specs.Pieces.{AddsPieces, IsOfOwn}
use Rattle.view_shapes.proofs.own.push_own.Given as goal

abbrev pub invariant-rects : goal.invariant-rects
invariant-rects l = AddsPieces (IsOfOwn l.own l.conductor l.net_of l.at l.wanted l.r) l.fn.out.items l.out.items
