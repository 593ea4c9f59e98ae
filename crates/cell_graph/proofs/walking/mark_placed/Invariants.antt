use Rattle.cell_graph.proofs.walking.mark_placed.Given as goal
use Rattle.cell_graph.specs.Marking.{AddsMarks, IsAmongFirst}

abbrev pub invariant-loop-place : goal.invariant-loop-place
invariant-loop-place l = AddsMarks (IsAmongFirst l.places l.place-index) l.fn.marks.items l.marks.items l.fn.stack.items l.stack.items
