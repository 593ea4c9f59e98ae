use Rattle.std.proofs.Common.{length}
use Rattle.net_model.specs.Rows.{plain_device}
use Rattle.std.specs.Prelude.{map}
use Rattle.view_drawing.specs.Devices.{areas_of}
use Rattle.view_drawing.proofs.Placing.{PlacesSoFar}
use Rattle.view_drawing.proofs.devices.place_devices.Given as goal

abbrev pub invariant-gates : goal.invariant-gates
invariant-gates l = PlacesSoFar (areas_of l.initial.found.regions.items) (areas_of l.found.regions.items) l.left (map plain_device l.rest) l.out.items l.gates (map plain_device l.rows)

abbrev pub decreases-gates : goal.decreases-gates
decreases-gates l = length l.left
