use Rattle.std.proofs.Common.{◌≡◌, ◌↔◌, length, map}
use Rattle.net_model.specs.Rows.{plain_device}
use Rattle.view_labels.proofs.same.same_devices.Given as goal

abbrev pub invariant-devices : goal.invariant-devices
invariant-devices l = (map plain_device l.rest ≡ map plain_device l.behind) ↔ (map plain_device l.some ≡ map plain_device l.others)

abbrev pub decreases-devices : goal.decreases-devices
decreases-devices l = length l.rest
