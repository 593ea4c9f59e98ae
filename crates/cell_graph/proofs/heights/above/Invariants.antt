use Rattle.cell_graph.proofs.heights.above.Given as goal
use Rattle.cell_graph.proofs.Raising.{AboveSoFar}

abbrev pub invariant-loop-place : goal.invariant-loop-place
invariant-loop-place l = AboveSoFar l.places l.heights l.place-index l.most
