use Rattle.std.proofs.Common.{length}
use Rattle.net_walk.proofs.Seeing.{no_part_joined}
use Rattle.net_walk.proofs.seen.see_joined.Goals as goal
use Rattle.net_walk.specs.Walk.{place_of}

pub returns-in-None : goal.returns-in-None
returns-in-None g c = no_part_joined (g.C.Cells.design c.args.cells.now) (g.C.Cells.tables c.args.cells.now) (place_of c.args.placed.now.element.now) c.args.window.now c.args.placed.now.at c.args.joins.now c.args.conductor (length (g.C.Cells.wiring c.args.cells.now).conductors) c.args.out.now.items c.in-None.ensures.none
