use Rattle.std.proofs.Common.{◌≡◌, drop}
use Rattle.spice_text.specs.Needs.{device_nets}
use Rattle.spice_text.specs.Table.{with_numbers}
use Rattle.spice_text.proofs.needs.push_device.Given as goal

abbrev pub invariant-nets : goal.invariant-nets
invariant-nets l = with_numbers l.globals l.out.items (drop l.place (device_nets l.d)) ≡ with_numbers l.globals l.initial.out.items (device_nets l.d)
