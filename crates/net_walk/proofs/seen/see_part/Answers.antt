use Rattle.net_walk.proofs.Seeing.{conductor_seen}
use Rattle.net_walk.proofs.seen.see_part.Goals as goal
use Rattle.net_walk.specs.Walk.{place_of}

pub loop-conductor-preserved : goal.loop-conductor-preserved
loop-conductor-preserved g c =
    conductor_seen (g.C.Cells.design c.args.cells.now) (g.C.Cells.tables c.args.cells.now) (place_of c.args.sight.now.placed.element.now) c.args.sight.now.window.now c.args.sight.now.placed.at c.loop-conductor.conductor c.args.out.now.items c.loop-conductor.out.items c.see_conductor.new.out.items c.loop-conductor.invariant c.in_ok-see_conductor.ensures
