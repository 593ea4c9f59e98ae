use Rattle.cell_graph.specs.Layering.{AreRefsTo}
use Rattle.cell_graph.proofs.layering.refs_of.Given as goal

abbrev pub invariant-loop-place : goal.invariant-loop-place
invariant-loop-place l = AreRefsTo l.names l.places l.place-index l.refs.items
