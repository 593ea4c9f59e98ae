use Rattle.std.proofs.Common.{map, length}
use Rattle.net_model.specs.Rows.{plain_device}
use Rattle.device_merge.proofs.Going.{IsGoing}
use Rattle.device_merge.proofs.groups.merge_up_to.Given as goal

abbrev pub invariant-devices : goal.invariant-devices
invariant-devices l = IsGoing l.most l.merging (map plain_device l.devices) (map plain_device l.rest)

abbrev pub decreases-devices : goal.decreases-devices
decreases-devices l = length l.rest
