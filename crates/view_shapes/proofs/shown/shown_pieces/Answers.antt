use Rattle.std.proofs.Common.{List, subst}
use Rattle.view_shapes.proofs.Bounding.{far_shown}
use Rattle.view_shapes.specs.Pieces.{HasFar}
use Rattle.view_shapes.specs.Shown.{called_by}
use Rattle.view_shapes.specs.declared.pieces.Piece.{Piece}
use Rattle.view_shapes.proofs.shown.shown_pieces.Goals as goal

pub returns-clause-far : goal.returns-clause-far
returns-clause-far g c e =
    let far = subst (λ (l : List Piece). HasFar l) c.deref.ensures.value (c.are_small.ensures.far c.if-are_small.false) in
    far_shown (g.C.Cells.design c.args.cells.now) (g.C.Cells.tables c.args.cells.now) (called_by c.args.called.now) c.args.cell c.args.wanted.now c.in_ok-pieces.pieces.items
    (λ k x q over. (c.in_ok-pieces.ensures.shown k x q).0 over) c.in_ok-pieces.ensures.near far
