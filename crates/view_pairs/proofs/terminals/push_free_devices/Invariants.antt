use Rattle.std.proofs.Common.{◌≡◌, ◌++◌, length, map}
use Rattle.net_model.specs.Rows.{plain_device}
use Rattle.plain_netlist.specs.Devices.{terminal_nets}
use Rattle.view_pairs.specs.Terminals.{free_joints}
use Rattle.view_pairs.proofs.terminals.push_free_devices.Given as goal

abbrev pub invariant-devices : goal.invariant-devices
invariant-devices l = l.out.items ++ free_joints terminal_nets (map plain_device l.rights) l.rest
    ≡ l.initial.out.items ++ free_joints terminal_nets (map plain_device l.rights) l.free

abbrev pub decreases-devices : goal.decreases-devices
decreases-devices l = length l.rest
