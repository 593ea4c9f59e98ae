use Rattle.std.proofs.Common.{◌≡◌, ◌++◌, length}
use Rattle.std.specs.Prelude.{None, filter, is_some, slice_index_or}
use Rattle.part_origins.proofs.nets.held_pins.Given as goal

abbrev pub invariant-pins : goal.invariant-pins
invariant-pins l =
    l.held.items ++ filter (λ n. is_some (slice_index_or l.numbers n None)) l.rest ≡ filter (λ n. is_some (slice_index_or l.numbers n None)) l.pins

abbrev pub decreases-pins : goal.decreases-pins
decreases-pins l = length l.rest
