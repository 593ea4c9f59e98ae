use Rattle.std.proofs.Common.{map, length}
use Rattle.part_origins.specs.Inside.{plain_spot}
use Rattle.view_joined.proofs.Motions.{HasMotions}
use Rattle.view_joined.proofs.spots.spot_motions.Given as goal

abbrev pub invariant-spots : goal.invariant-spots
invariant-spots l =
    HasMotions (map plain_spot l.spots) l.drawings (map plain_spot l.spots) l.motions.items (map plain_spot l.rest)

abbrev pub decreases-spots : goal.decreases-spots
decreases-spots l = length l.rest
