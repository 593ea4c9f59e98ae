use Rattle.std.proofs.Common.{◌≡◌, map, take}
use Rattle.cell_graph.specs.Linked.{cell_at, places_at, reference}
use Rattle.flat_layout.specs.Arrays.{places_of}
use Rattle.circuit_phase.proofs.cells.placed_cells.Given as goal

abbrev pub invariant-loop-place : goal.invariant-loop-place
invariant-loop-place l = l.out.items ≡ map (λ p. p.cell) (places_of (map reference (take l.place-index (places_at (cell_at l.design l.cell)))))
