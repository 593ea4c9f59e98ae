use Rattle.std.proofs.Common.{◌≡◌, ◌+◌, ◌++◌, map, length}
use Rattle.align_laws.specs.Lists.{net_at_pin}
use Rattle.part_origins.specs.Inside.{moved_spot, plain_spot}
use Rattle.part_origins.proofs.inside.add_spots.Given as goal

abbrev pub invariant-spots : goal.invariant-spots
invariant-spots l =
    map plain_spot l.spots.items ++ map (moved_spot l.k l.base (net_at_pin l.pins (λ i. l.behind + i))) (map plain_spot l.rest) ≡ map plain_spot l.initial.spots.items ++ map (moved_spot l.k l.base (net_at_pin l.pins (λ i. l.behind + i))) (map plain_spot l.inner)

abbrev pub decreases-spots : goal.decreases-spots
decreases-spots l = length l.rest
