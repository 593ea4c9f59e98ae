use Rattle.std.proofs.Common.{◌≡◌, ◌++◌, length, map}
use Rattle.view_run.specs.Places.{drawing_places, plain_places}
use Rattle.view_run.proofs.places.places.Given as goal

abbrev pub invariant-drawings : goal.invariant-drawings
invariant-drawings l = map plain_places l.all.items ++ map drawing_places l.rest ≡ map drawing_places l.drawings

abbrev pub decreases-drawings : goal.decreases-drawings
decreases-drawings l = length l.rest
