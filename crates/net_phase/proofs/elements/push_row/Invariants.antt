use Rattle.std.proofs.Common.{◌≡◌, ◌++◌, map}
use Rattle.cell_graph.specs.Linked.{reference}
use Rattle.flat_layout.specs.Arrays.{row_places}
use Rattle.net_phase.proofs.elements.push_row.Given as goal
use Rattle.net_walk.specs.Walk.{place_of}

abbrev pub invariant-loop-column : goal.invariant-loop-column
invariant-loop-column l = map place_of l.out.items ≡ map place_of l.fn.out.items ++ row_places (reference l.place) l.row 0 l.column
