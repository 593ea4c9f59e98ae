use Rattle.std.proofs.Common.{◌≡◌, map}
use Rattle.std.specs.List.{range_with_len}
use Rattle.tile_index.specs.declared.entries.Stop.{Stop}
use Rattle.tile_index.proofs.entries.stops_of.Given as goal

abbrev pub invariant-loop-i : goal.invariant-loop-i
invariant-loop-i l = map (λ (s : Stop). s.position) l.stops.items ≡ range_with_len 0 l.i
