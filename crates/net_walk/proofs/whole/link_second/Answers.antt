use Rattle.std.proofs.Common.{arith, length}
use Rattle.net_walk.proofs.Wholes.{where_apart, where_linked, where_none}
use Rattle.net_walk.proofs.whole.link_second.Goals as goal

pub returns-clause-links : goal.returns-clause-links
returns-clause-links g c =
    where_linked (g.C.Cells.design c.args.cells.now) (g.C.Cells.tables c.args.cells.now) c.args.piece.now.item c.args.piece.now.conductor c.args.placed.now.element.now.cell c.args.placed.now.at c.args.line.now.first c.args.line.now.second (length (g.C.Cells.wiring c.args.cells.now).conductors)
    c.args.out.now.items c.link_held.new.out.items (omega arith) (omega arith) c.in_ok-link_held.ensures.links

pub returns-then-line-piece-clause-links : goal.returns-then-line-piece-clause-links
returns-then-line-piece-clause-links g c =
    where_apart (g.C.Cells.design c.args.cells.now) (g.C.Cells.tables c.args.cells.now) c.args.piece.now.item c.args.piece.now.conductor c.args.placed.now.element.now.cell c.args.placed.now.at c.args.line.now.first c.args.line.now.second (length (g.C.Cells.wiring c.args.cells.now).conductors) c.args.out.now.items c.if-line-piece.true

pub returns-then-line-conductors-clause-links : goal.returns-then-line-conductors-clause-links
returns-then-line-conductors-clause-links g c =
    let e = c.conductors.ensures in
    let out = c.if-line-conductors.true in
    where_none (g.C.Cells.design c.args.cells.now) (g.C.Cells.tables c.args.cells.now) c.args.piece.now.item c.args.piece.now.conductor c.args.placed.now.element.now.cell c.args.placed.now.at c.args.line.now.first c.args.line.now.second (length (g.C.Cells.wiring c.args.cells.now).conductors) c.args.out.now.items (λ h. omega (arith, h))
