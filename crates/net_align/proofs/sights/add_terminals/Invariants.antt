use Rattle.std.proofs.Common.{◌≡◌, ◌++◌, map, take}
use Rattle.std.specs.Prelude.{flat_map}
use Rattle.plain_netlist.specs.Devices.{terminal_nets}
use Rattle.net_model.specs.Rows.{plain_device}
use Rattle.net_align.proofs.sights.add_terminals.Given as goal

abbrev pub invariant-loop-row : goal.invariant-loop-row
invariant-loop-row l = l.nets.items ≡ l.fn.nets.items ++ flat_map terminal_nets (map plain_device (take l.row-index l.devices))
