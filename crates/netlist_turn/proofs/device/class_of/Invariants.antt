use Rattle.std.proofs.Common.{◌≡◌, length}
use Rattle.netlist_turn.specs.Devices.{class_of}
use Rattle.netlist_turn.specs.DevicesSeen.{keys_seen}
use Rattle.netlist_turn.proofs.device.class_of.Given as goal

abbrev pub invariant-keys : goal.invariant-keys
invariant-keys l = class_of (keys_seen l.rest) l.name ≡ class_of (keys_seen l.keys) l.name

abbrev pub decreases-keys : goal.decreases-keys
decreases-keys l = length l.rest
