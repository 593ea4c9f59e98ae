use Rattle.std.proofs.Common.{◌≡◌, ◌+◌, map, length}
use Rattle.net_model.specs.Rows.{plain_device}
use Rattle.device_merge.proofs.Parted.{IsGoing}
use Rattle.device_merge.proofs.parts.merged_parts.Given as goal

abbrev pub invariant-devices : goal.invariant-devices
invariant-devices l = IsGoing l.parting l.place (map plain_device l.devices) (map plain_device l.rest)
    × (l.place + length l.rest ≡ length l.devices)

abbrev pub decreases-devices : goal.decreases-devices
decreases-devices l = length l.rest
