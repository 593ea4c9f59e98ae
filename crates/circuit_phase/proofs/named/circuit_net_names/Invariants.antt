use Rattle.std.proofs.Common.{◌≡◌, [], get_or, map, take}
use Rattle.circuit_phase.proofs.named.circuit_net_names.Given as goal

abbrev pub invariant-loop-net : goal.invariant-loop-net
invariant-loop-net l = l.out.items ≡ map (λ x. get_or l.names.items (get_or l.places.items x 0) []) (take l.net-index l.nets)
