use Rattle.std.proofs.Common.{◌≡◌, length}
use Rattle.netlist_turn.specs.Devices.{key_of}
use Rattle.netlist_turn.specs.DevicesSeen.{keys_seen}
use Rattle.netlist_turn.proofs.device.key_of.Given as goal

abbrev pub invariant-keys : goal.invariant-keys
invariant-keys l = key_of (keys_seen l.rest) l.name ≡ key_of (keys_seen l.keys) l.name

abbrev pub decreases-keys : goal.decreases-keys
decreases-keys l = length l.rest
