use Rattle.std.proofs.Common.{map, length}
use Rattle.part_origins.specs.Inside.{plain_spot}
use Rattle.view_drawing.specs.Devices.{areas_of}
use Rattle.view_joined.proofs.Growing.{SoFar}
use Rattle.view_joined.proofs.devices.joined_devices.Given as goal

abbrev pub invariant-devices : goal.invariant-devices
invariant-devices l =
    SoFar (map plain_spot l.spots) l.drawings l.motions (areas_of l.initial.found.regions.items) (areas_of l.found.regions.items) l.devices l.out.items l.rest

abbrev pub decreases-devices : goal.decreases-devices
decreases-devices l = length l.rest
