use Rattle.std.proofs.Common.{◌≡◌, ◌++◌, map, length}
use Rattle.part_origins.specs.Nets.{net_at}
use Rattle.part_origins.proofs.nets.add_pins.Given as goal

abbrev pub invariant-pins : goal.invariant-pins
invariant-pins l =
    l.seen.items ++ map (λ p. net_at l.nets (net_at l.call p)) l.rest ≡ l.initial.seen.items ++ map (λ p. net_at l.nets (net_at l.call p)) l.pins

abbrev pub decreases-pins : goal.decreases-pins
decreases-pins l = length l.rest
