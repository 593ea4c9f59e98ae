use Rattle.cell_graph.proofs.references.places_at.Given as goal
use Rattle.cell_graph.specs.Naming.{AreResolvedTo}

abbrev pub invariant-loop-r : goal.invariant-loop-r
invariant-loop-r l = AreResolvedTo l.cells l.r-items l.r-index l.places.items
