use Rattle.std.proofs.Common.{length, take}
use Rattle.net_walk.proofs.seen.see_joined_part.Given as goal
use Rattle.net_walk.specs.Seen.{AddsSeen, IsJoinedSeen}
use Rattle.net_walk.specs.Walk.{place_of}

abbrev pub invariant-loop-line : goal.invariant-loop-line
invariant-loop-line g l =
    AddsSeen (IsJoinedSeen (g.C.Cells.design l.cells) (g.C.Cells.tables l.cells) (take l.line-index l.joins) l.conductor (place_of l.sight.placed.element.now) l.sight.window.now l.sight.placed.at (length (g.C.Cells.wiring l.cells).conductors)) l.fn.out.items l.out.items
