use Rattle.std.proofs.Common.{◌≡◌, length}
use Rattle.std.specs.Prelude.{flat_map}
use Rattle.spice_text.specs.Needs.{device_nets}
use Rattle.spice_text.specs.Table.{with_numbers}
use Rattle.spice_text.proofs.needs.push_devices.Given as goal

abbrev pub invariant-devices : goal.invariant-devices
invariant-devices l = with_numbers l.globals l.out.items (flat_map device_nets l.rest) ≡ with_numbers l.globals l.initial.out.items (flat_map device_nets l.devices)

abbrev pub decreases-devices : goal.decreases-devices
decreases-devices l = length l.rest
