use Rattle.std.proofs.Common.{◌≡◌, ◌++◌, ◌+◌, length}
use Rattle.view_pairs.specs.Partners.{free_from}
use Rattle.view_pairs.proofs.partners.free_places.Given as goal

abbrev pub invariant-places : goal.invariant-places
invariant-places l = (l.free.items ++ free_from l.k l.rest ≡ free_from 0 l.taken) × (l.k + length l.rest ≡ length l.taken)

abbrev pub decreases-places : goal.decreases-places
decreases-places l = length l.rest
