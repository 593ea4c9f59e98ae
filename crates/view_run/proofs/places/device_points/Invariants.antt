use Rattle.std.proofs.Common.{◌≡◌, ◌++◌, length, map}
use Rattle.view_run.specs.Places.{device_point}
use Rattle.view_run.proofs.places.device_points.Given as goal

abbrev pub invariant-devices : goal.invariant-devices
invariant-devices l = l.points.items ++ map device_point l.rest ≡ map device_point l.devices

abbrev pub decreases-devices : goal.decreases-devices
decreases-devices l = length l.rest
