use Rattle.net_walk.proofs.Holding.{AreMarkedFor}
use Rattle.net_walk.proofs.held.+hold.Given as goal
use Rattle.net_walk.specs.Held.{AreHeldLists}

abbrev pub decreases-hold : goal.decreases-hold
decreases-hold g l = g.C.Cells.height l.cells.now l.cell

abbrev pub invariant-loop-number : goal.invariant-loop-number
invariant-loop-number g l =
    AreHeldLists (g.C.Cells.design l.cells) (g.C.Cells.tables l.cells) l.memo.lists.items
    × AreMarkedFor (g.C.Cells.design l.cells) (g.C.Cells.tables l.cells) l.cell l.conductor l.number l.marks.items
