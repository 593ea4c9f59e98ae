use Rattle.std.proofs.Common.{◌≡◌, map, take}
use Rattle.cell_graph.specs.Linked.{cell_at, places_at, reference}
use Rattle.flat_layout.specs.Arrays.{places_of}
use Rattle.net_phase.proofs.elements.elements.Given as goal
use Rattle.net_walk.specs.Walk.{place_of}

abbrev pub invariant-loop-place : goal.invariant-loop-place
invariant-loop-place l = map place_of l.out.items ≡ places_of (map reference (take l.place-index (places_at (cell_at l.design l.cell))))
