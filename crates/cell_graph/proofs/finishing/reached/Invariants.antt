use Rattle.cell_graph.proofs.finishing.reached.Given as goal
use Rattle.cell_graph.specs.Finished.{AreReached}

abbrev pub invariant-loop-cell : goal.invariant-loop-cell
invariant-loop-cell l = AreReached l.parts l.top l.order l.cell-index l.kept.items
