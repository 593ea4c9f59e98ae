use Rattle.std.proofs.Common.{◌≡◌, ◌++◌, map}
use Rattle.cell_graph.specs.Linked.{reference}
use Rattle.flat_layout.specs.Arrays.{array_places}
use Rattle.net_phase.proofs.elements.push_array.Given as goal
use Rattle.net_walk.specs.Walk.{place_of}

abbrev pub invariant-loop-row : goal.invariant-loop-row
invariant-loop-row l = map place_of l.out.items ≡ map place_of l.fn.out.items ++ array_places (reference l.place) 0 l.row
