use Rattle.std.proofs.Common.{map, length}
use Rattle.part_origins.specs.Inside.{plain_spot}
use Rattle.view_joined.proofs.Motions.{HasCalls}
use Rattle.view_joined.proofs.spots.joined_calls.Given as goal

abbrev pub invariant-calls : goal.invariant-calls
invariant-calls l =
    HasCalls (map plain_spot l.spots) l.drawings l.motions l.calls l.out.items l.rest

abbrev pub decreases-calls : goal.decreases-calls
decreases-calls l = length l.rest
