use Rattle.cell_graph.specs.Indexes.{AreIndexedTo}
use Rattle.cell_graph.proofs.indexes.indexes_of.Given as goal

abbrev pub invariant-loop-i : goal.invariant-loop-i
invariant-loop-i l = AreIndexedTo l.cells l.i l.indexes.items
