use Rattle.cell_graph.proofs.tops.next_free.Given as goal
use Rattle.cell_graph.specs.Tops.{AreMarkedFrom}

abbrev pub invariant-loop-i : goal.invariant-loop-i
invariant-loop-i l = AreMarkedFrom l.marks l.fn.from l.i
