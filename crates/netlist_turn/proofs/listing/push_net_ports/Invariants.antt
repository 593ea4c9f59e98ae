use Rattle.std.proofs.Common.{◌≡◌, ◌++◌, length}
use Rattle.netlist_turn.specs.Devices.{net_ports}
use Rattle.netlist_turn.specs.DevicesSeen.{keys_seen}
use Rattle.netlist_turn.specs.PinsSeen.{pins_seen}
use Rattle.netlist_turn.proofs.listing.push_net_ports.Given as goal

abbrev pub invariant-keys : goal.invariant-keys
invariant-keys l = pins_seen l.out.items ++ net_ports (keys_seen l.rest) ≡ pins_seen l.fn.out.items ++ net_ports (keys_seen l.keys)

abbrev pub decreases-keys : goal.decreases-keys
decreases-keys l = length l.rest
