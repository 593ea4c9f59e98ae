use Rattle.cell_graph.proofs.tops.mark_cells.Given as goal
use Rattle.cell_graph.specs.Marking.{IsAmongFirst}
use Rattle.cell_graph.specs.Tops.{MarksMore}

abbrev pub invariant-loop-place : goal.invariant-loop-place
invariant-loop-place l = MarksMore (IsAmongFirst l.places l.place-index) l.fn.marks.items l.marks.items
