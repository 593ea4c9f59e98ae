use Rattle.std.proofs.Common.{◌≡◌, ◌++◌, map, take, slice_index}
use Rattle.net_model.specs.Rows.{plain_device}
use Rattle.net_align.specs.Laid.{device_put}
use Rattle.net_align.proofs.inline.add_devices.Given as goal

abbrev pub invariant-loop-row : goal.invariant-loop-row
invariant-loop-row l = map plain_device l.devices.items ≡ map plain_device l.fn.devices.items ++ map (device_put (slice_index l.to)) (take l.row-index l.inner)
