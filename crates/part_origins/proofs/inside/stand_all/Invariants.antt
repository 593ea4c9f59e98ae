use Rattle.std.proofs.Common.{◌≡◌, ◌+◌, ◌++◌, map, length}
use Rattle.align_laws.specs.Lists.{net_at_pin}
use Rattle.part_origins.proofs.inside.stand_all.Given as goal

abbrev pub invariant-nets : goal.invariant-nets
invariant-nets l =
    l.to.items ++ map (net_at_pin l.pins (λ i. l.behind + i)) l.rest ≡ map (net_at_pin l.pins (λ i. l.behind + i)) l.nets

abbrev pub decreases-nets : goal.decreases-nets
decreases-nets l = length l.rest
