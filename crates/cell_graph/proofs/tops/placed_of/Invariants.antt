use Rattle.cell_graph.proofs.tops.placed_of.Given as goal
use Rattle.cell_graph.specs.Tops.{ArePlacedTo}

abbrev pub invariant-loop-i : goal.invariant-loop-i
invariant-loop-i l = ArePlacedTo l.parts l.i l.marks.items
