use Rattle.std.proofs.Common.{◌≡◌, ◌++◌, map, length}
use Rattle.std.specs.Prelude.{flat_map}
use Rattle.net_model.specs.Rows.{plain_device}
use Rattle.plain_netlist.specs.Devices.{terminal_nets}
use Rattle.part_origins.proofs.nets.add_named.Given as goal

abbrev pub invariant-rows : goal.invariant-rows
invariant-rows l =
    l.named.items ++ flat_map terminal_nets (map plain_device l.rest) ≡ l.initial.named.items ++ flat_map terminal_nets (map plain_device l.devices)

abbrev pub decreases-rows : goal.decreases-rows
decreases-rows l = length l.rest
