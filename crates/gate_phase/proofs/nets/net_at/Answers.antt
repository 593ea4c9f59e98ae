use Rattle.std.proofs.Common.{List, subst, sym}
use Rattle.net_link_laws.specs.declared.piece.NetPiece.{NetPiece}
use Rattle.net_walk.specs.Walk.{IsCollection}
use Rattle.gate_phase.proofs.Netting.{first_holds, none_holds}
use Rattle.gate_phase.proofs.nets.net_at.Goals as goal

pub returns-in-Some : goal.returns-in-Some
returns-in-Some g c =
    let d = g.C.Cells.design c.args.cells.now in let t = g.C.Cells.tables c.args.cells.now in
    first_holds d t c.args.cell c.args.conductor c.args.square c.unit.result c.deref.result.now c.in-Some.piece.now c.unit.ensures.exact c.in-Some.ensures.value
    (subst (λ (l : List NetPiece). IsCollection d t c.args.cell c.args.conductor c.unit.result l) (sym c.deref.ensures.value) c.in_ok-pieces.ensures)

pub returns : goal.returns
returns g c =
    let d = g.C.Cells.design c.args.cells.now in let t = g.C.Cells.tables c.args.cells.now in
    none_holds d t c.args.cell c.args.conductor c.args.square c.unit.result c.deref.result.now c.unit.ensures.exact c.in-None.ensures.value
    (subst (λ (l : List NetPiece). IsCollection d t c.args.cell c.args.conductor c.unit.result l) (sym c.deref.ensures.value) c.in_ok-pieces.ensures)
