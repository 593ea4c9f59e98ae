use Rattle.std.proofs.Common.{◌≡◌, map, take}
use Rattle.net_model.specs.Rows.{plain_device}
use Rattle.net_align.specs.Laid.{device_put}
use Rattle.net_align.specs.Sights.{new_of}
use Rattle.net_align.proofs.cut.cut_devices.Given as goal

abbrev pub invariant-loop-row : goal.invariant-loop-row
invariant-loop-row l = map plain_device l.rows.items ≡ map (device_put (new_of l.nets.places.items)) (take l.row-index l.devices)
