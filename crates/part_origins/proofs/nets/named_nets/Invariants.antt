use Rattle.std.proofs.Common.{◌≡◌, ◌++◌, map, length}
use Rattle.std.specs.Prelude.{flat_map}
use Rattle.net_model.specs.Rows.{plain_call, plain_circuit}
use Rattle.plain_netlist.specs.Netlist.{CallRow}
use Rattle.part_origins.specs.Nets.{named_nets}
use Rattle.part_origins.proofs.nets.named_nets.Given as goal

abbrev pub invariant-calls : goal.invariant-calls
invariant-calls l =
    l.named.items ++ flat_map (λ (r : CallRow). r.nets) (map plain_call l.rest) ≡ named_nets (plain_circuit l.circuit)

abbrev pub decreases-calls : goal.decreases-calls
decreases-calls l = length l.rest
