use Rattle.std.proofs.Common.{List, subst}
use Rattle.view_shapes.specs.Shown.{called_by}
use Rattle.view_shapes.specs.declared.pieces.Piece.{Piece}
use Rattle.view_drawing.specs.Nets.{HaveShapes}
use Rattle.view_drawing.proofs.Covering.{nets_drawn, small_lists}
use Rattle.view_drawing.proofs.shown.circuit_shapes.Goals as goal

pub returns-clause-count : goal.returns-clause-count
returns-clause-count g c = c.in_ok-shapes.ensures.long

pub returns-clause-drawn : goal.returns-clause-drawn
returns-clause-drawn g c nets tells long =
    let pieces = c.in_ok-pieces.pieces.items in
    let have = subst (λ (ps : List Piece). HaveShapes c.args.count c.args.numbers.now ps c.in_ok-shapes.shapes.items) c.deref.ensures.value c.in_ok-shapes.ensures in
    nets_drawn (g.C.Cells.design c.args.cells.now) (g.C.Cells.tables c.args.cells.now) (called_by c.args.called.now) c.args.cell c.args.wanted.now c.args.numbers.now nets c.args.count pieces
    c.in_ok-shapes.shapes.items c.in_ok-pieces.ensures.shown have tells long

pub returns-clause-small : goal.returns-clause-small
returns-clause-small g c =
    let pieces = c.in_ok-pieces.pieces.items in
    let have = subst (λ (ps : List Piece). HaveShapes c.args.count c.args.numbers.now ps c.in_ok-shapes.shapes.items) c.deref.ensures.value c.in_ok-shapes.ensures in
    small_lists c.args.count c.args.numbers.now pieces c.in_ok-shapes.shapes.items have c.in_ok-pieces.ensures.small
