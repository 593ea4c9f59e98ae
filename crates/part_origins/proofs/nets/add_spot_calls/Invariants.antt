use Rattle.std.proofs.Common.{◌≡◌, ◌++◌, map, length}
use Rattle.std.specs.Prelude.{flat_map}
use Rattle.net_model.specs.Rows.{plain_netlist}
use Rattle.part_origins.specs.Inside.{plain_spot}
use Rattle.part_origins.specs.Nets.{spot_calls}
use Rattle.part_origins.proofs.nets.add_spot_calls.Given as goal

abbrev pub invariant-spots : goal.invariant-spots
invariant-spots l =
    l.seen.items ++ flat_map (spot_calls (plain_netlist l.written) l.numbers (map (λ p. p.items) l.held)) (map plain_spot l.rest) ≡ l.initial.seen.items ++ flat_map (spot_calls (plain_netlist l.written) l.numbers (map (λ p. p.items) l.held)) (map plain_spot l.spots)

abbrev pub decreases-spots : goal.decreases-spots
decreases-spots l = length l.rest
