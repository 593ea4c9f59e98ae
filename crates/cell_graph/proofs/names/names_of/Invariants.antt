use Rattle.cell_graph.proofs.names.names_of.Given as goal
use Rattle.cell_graph.proofs.Naming.{NamesSoFar}

abbrev pub invariant-loop-cell : goal.invariant-loop-cell
invariant-loop-cell l = NamesSoFar l.cells l.cell-index l.names
