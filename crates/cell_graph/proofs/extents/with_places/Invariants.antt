use Rattle.cell_graph.specs.Extents.{PlacePoint}
use Rattle.cell_graph.specs.Sides.{Widens, AmongFirst}
use Rattle.cell_graph.proofs.extents.with_places.Given as goal

abbrev pub invariant-loop-place : goal.invariant-loop-place
invariant-loop-place l = Widens l.fn.bounds (AmongFirst (PlacePoint l.found) l.places l.place-index) l.all
