use Rattle.net_walk.proofs.seen.see_part.Given as goal
use Rattle.net_walk.specs.Seen.{AddsSeen, IsSeen}
use Rattle.net_walk.specs.Walk.{place_of}

abbrev pub invariant-loop-conductor : goal.invariant-loop-conductor
invariant-loop-conductor g l = AddsSeen (IsSeen (g.C.Cells.design l.cells) (g.C.Cells.tables l.cells) (place_of l.sight.placed.element.now) l.sight.window.now l.sight.placed.at l.conductor) l.fn.out.items l.out.items
