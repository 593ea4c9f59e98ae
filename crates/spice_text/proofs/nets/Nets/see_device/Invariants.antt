use Rattle.std.proofs.Common.{◌≡◌, drop}
use Rattle.spice_text.specs.Needs.{HaveBytes, first_seen, device_nets}
use Rattle.spice_text.proofs.nets.Nets.see_device.Given as goal

abbrev pub invariant-nets : goal.invariant-nets
invariant-nets l = HaveBytes l.self.table × (first_seen l.self.table (drop l.place (device_nets l.d)) ≡ first_seen l.fn.self.table (device_nets l.d))
