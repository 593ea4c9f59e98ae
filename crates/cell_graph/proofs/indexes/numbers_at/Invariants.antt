use Rattle.std.specs.Prelude.{◌≡◌, map, take, slice_index}
use Rattle.cell_graph.proofs.indexes.numbers_at.Given as goal

abbrev pub invariant-loop-j : goal.invariant-loop-j
invariant-loop-j l = l.found.items ≡ map (slice_index l.numbers) (take l.j-index l.places)
