use Rattle.cell_graph.specs.Drafts.{IsCorner}
use Rattle.cell_graph.specs.Sides.{Widens, AmongFirst}
use Rattle.cell_graph.proofs.extents.with_rects.Given as goal

abbrev pub invariant-loop-r : goal.invariant-loop-r
invariant-loop-r l = Widens l.fn.bounds (AmongFirst IsCorner l.rects l.r-index) l.all
