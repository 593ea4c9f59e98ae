use Rattle.std.proofs.Common.{◌≡◌, ◌++◌, map, length}
use Rattle.std.specs.Prelude.{flat_map}
use Rattle.net_model.specs.Rows.{plain_netlist}
use Rattle.part_origins.specs.Inside.{plain_spot}
use Rattle.part_origins.specs.Nets.{spot_terminals}
use Rattle.part_origins.proofs.nets.spot_terminals.Given as goal

abbrev pub invariant-spots : goal.invariant-spots
invariant-spots l =
    l.seen.items ++ flat_map (spot_terminals (plain_netlist l.written)) (map plain_spot l.rest) ≡ flat_map (spot_terminals (plain_netlist l.written)) (map plain_spot l.spots)

abbrev pub decreases-spots : goal.decreases-spots
decreases-spots l = length l.rest
