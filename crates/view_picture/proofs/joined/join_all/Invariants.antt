use Rattle.std.proofs.Common.{length}
use Rattle.std.specs.Prelude.{map}
use Rattle.net_model.specs.Rows.{plain_circuit}
use Rattle.part_origins.specs.Inside.{plain_inside}
use Rattle.part_origins.specs.Made.{plain_origins}
use Rattle.view_drawing.specs.Devices.{areas_of}
use Rattle.view_picture.proofs.Joining.{JoinedSoFar}
use Rattle.view_picture.proofs.joined.join_all.Given as goal

abbrev pub invariant-circuits : goal.invariant-circuits
invariant-circuits l = JoinedSoFar (map plain_inside l.origins.insides.items) l.drawings (areas_of l.initial.regions.regions.items) (areas_of l.regions.regions.items)
    (map plain_origins l.from) (map plain_circuit l.rest) l.out.items (map plain_origins l.origins.circuits.items) (map plain_circuit l.lefts)

abbrev pub decreases-circuits : goal.decreases-circuits
decreases-circuits l = length l.rest
