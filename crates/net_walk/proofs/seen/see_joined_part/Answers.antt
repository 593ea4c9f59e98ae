use Rattle.std.proofs.Common.{arith, length}
use Rattle.net_walk.proofs.Seeing.{itself_seen, line_more, lines_all, no_line}
use Rattle.net_walk.proofs.seen.see_joined_part.Goals as goal
use Rattle.net_walk.specs.Walk.{place_of}

pub loop-line-init : goal.loop-line-init
loop-line-init g c =
    itself_seen (g.C.Cells.design c.args.cells.now) (g.C.Cells.tables c.args.cells.now) (place_of c.args.sight.now.placed.element.now) c.args.sight.now.window.now c.args.sight.now.placed.at c.args.conductor (length (g.C.Cells.wiring c.args.cells.now).conductors)
    c.args.out.now.items c.see_second.new.out.items c.in_ok-see_second.ensures

pub loop-line-preserved : goal.loop-line-preserved
loop-line-preserved g c =
    line_more (g.C.Cells.design c.args.cells.now) (g.C.Cells.tables c.args.cells.now) (place_of c.args.sight.now.placed.element.now) c.args.sight.now.window.now c.args.sight.now.placed.at c.args.joins.now c.loop-line.line-index no_line c.args.conductor (length (g.C.Cells.wiring c.args.cells.now).conductors)
    c.args.out.now.items c.loop-line.out.items c.see_line.new.out.items (omega arith) c.loop-line.invariant c.in_ok-see_line.ensures

pub returns : goal.returns
returns g c =
    lines_all (g.C.Cells.design c.args.cells.now) (g.C.Cells.tables c.args.cells.now) (place_of c.args.sight.now.placed.element.now) c.args.sight.now.window.now c.args.sight.now.placed.at c.args.joins.now c.loop-line.line-index c.args.conductor (length (g.C.Cells.wiring c.args.cells.now).conductors)
    c.args.out.now.items c.loop-line.out.items (omega arith) c.loop-line.invariant
