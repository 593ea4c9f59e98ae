use Rattle.std.proofs.Common.{◌≡◌, ◌++◌, length}
use Rattle.netlist_turn.specs.Devices.{net_names}
use Rattle.netlist_turn.specs.DevicesSeen.{keys_seen}
use Rattle.netlist_turn.specs.PinsSeen.{pins_seen}
use Rattle.netlist_turn.proofs.listing.net_names.Given as goal

abbrev pub invariant-keys : goal.invariant-keys
invariant-keys l = pins_seen l.names.items ++ net_names (keys_seen l.rest) ≡ net_names (keys_seen l.keys)

abbrev pub decreases-keys : goal.decreases-keys
decreases-keys l = length l.rest
