use Rattle.cell_graph.proofs.heights.heights_along.Given as goal
use Rattle.cell_graph.specs.Rising.{AreSettledTo}

abbrev pub invariant-loop-cell : goal.invariant-loop-cell
invariant-loop-cell l = AreSettledTo l.parts l.order l.cell-index l.heights.items
