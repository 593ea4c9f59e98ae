use Rattle.std.proofs.Common.{arith, length}
use Rattle.net_walk.proofs.Seeing.{no_line}
use Rattle.net_walk.proofs.Wholes.{itself_linked, line_more, lines_all}
use Rattle.net_walk.proofs.whole.whole_links.Goals as goal

pub loop-line-init : goal.loop-line-init
loop-line-init g c = record {
  lists = c.in_ok-link_second.ensures.lists;
  links = itself_linked (g.C.Cells.design c.args.cells.now) (g.C.Cells.tables c.args.cells.now) c.args.piece.now.item c.args.piece.now.conductor c.args.placed.now.element.now.cell c.args.placed.now.at (length (g.C.Cells.wiring c.args.cells.now).conductors)
      c.args.out.now.items c.link_second.new.out.items c.in_ok-link_second.ensures.links;
}

pub loop-line-preserved : goal.loop-line-preserved
loop-line-preserved g c = record {
  lists = c.in_ok-link_line.ensures.lists;
  links = line_more (g.C.Cells.design c.args.cells.now) (g.C.Cells.tables c.args.cells.now) c.args.piece.now.item c.args.piece.now.conductor c.args.placed.now.element.now.cell c.args.placed.now.at c.args.joins.now c.loop-line.line-index no_line (length (g.C.Cells.wiring c.args.cells.now).conductors)
      c.args.out.now.items c.loop-line.out.items c.link_line.new.out.items (omega arith) c.loop-line.invariant.links c.in_ok-link_line.ensures.links;
}

pub returns-clause-links : goal.returns-clause-links
returns-clause-links g c =
    lines_all (g.C.Cells.design c.args.cells.now) (g.C.Cells.tables c.args.cells.now) c.args.piece.now.item c.args.piece.now.conductor c.args.placed.now.element.now.cell c.args.placed.now.at c.args.joins.now c.loop-line.line-index (length (g.C.Cells.wiring c.args.cells.now).conductors)
    c.args.out.now.items c.loop-line.out.items (omega arith) c.loop-line.invariant.links
