use Rattle.std.proofs.Common.{◌≡◌, length}
use Rattle.std.specs.Prelude.{flat_map}
use Rattle.spice_text.specs.Needs.{HaveBytes, first_seen, device_nets}
use Rattle.spice_text.proofs.nets.Nets.see_devices.Given as goal

abbrev pub invariant-devices : goal.invariant-devices
invariant-devices l = HaveBytes l.self.table × (first_seen l.self.table (flat_map device_nets l.rest) ≡ first_seen l.fn.self.table (flat_map device_nets l.devices))

abbrev pub decreases-devices : goal.decreases-devices
decreases-devices l = length l.rest
