use Rattle.std.proofs.Common.{length}
use Rattle.net_walk.proofs.Seeing.{line_seen}
use Rattle.net_walk.proofs.seen.see_line.Goals as goal
use Rattle.net_walk.specs.Walk.{place_of}

pub returns : goal.returns
returns g c =
    line_seen (g.C.Cells.design c.args.cells.now) (g.C.Cells.tables c.args.cells.now) (place_of c.args.sight.now.placed.element.now) c.args.sight.now.window.now c.args.sight.now.placed.at c.args.line.now c.args.conductor (length (g.C.Cells.wiring c.args.cells.now).conductors)
    c.args.out.now.items c.see_second.new.out.items c.see_second-2.new.out.items c.in_ok-see_second.ensures c.in_ok-see_second-2.ensures
