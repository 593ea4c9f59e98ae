use Rattle.std.proofs.Common.{◌≡◌, ◌++◌, length, map}
use Rattle.net_model.specs.Rows.{plain_device}
use Rattle.plain_netlist.specs.Devices.{terminal_nets}
use Rattle.view_pairs.specs.Joints.{device_joints}
use Rattle.view_pairs.specs.Terminals.{left_joints}
use Rattle.view_pairs.proofs.terminals.push_left_devices.Given as goal

abbrev pub invariant-devices : goal.invariant-devices
invariant-devices l = l.out.items ++ left_joints terminal_nets (device_joints l.nets) (map plain_device l.rights) (map plain_device l.devices) l.rest
    ≡ l.initial.out.items ++ left_joints terminal_nets (device_joints l.nets) (map plain_device l.rights) (map plain_device l.lefts) l.entries

abbrev pub decreases-devices : goal.decreases-devices
decreases-devices l = length l.devices
