use Rattle.cell_graph.proofs.references.parts_of.Given as goal
use Rattle.cell_graph.specs.Naming.{ArePartsTo}

abbrev pub invariant-loop-i : goal.invariant-loop-i
invariant-loop-i l = ArePartsTo l.cells l.i l.parts.items
