use Rattle.std.proofs.Common.{length}
use Rattle.net_walk.proofs.Wholes.{line_linked}
use Rattle.net_walk.proofs.whole.link_line.Goals as goal

pub returns-clause-links : goal.returns-clause-links
returns-clause-links g c =
    line_linked (g.C.Cells.design c.args.cells.now) (g.C.Cells.tables c.args.cells.now) c.args.piece.now.item c.args.piece.now.conductor c.args.placed.now.element.now.cell c.args.placed.now.at c.args.line.now (length (g.C.Cells.wiring c.args.cells.now).conductors)
    c.args.out.now.items c.link_second.new.out.items c.link_second-2.new.out.items c.in_ok-link_second.ensures.links c.in_ok-link_second-2.ensures.links
