use Rattle.std.proofs.Common.{◌≡◌, ◌++◌, length, map}
use Rattle.view_run.specs.Places.{call_point}
use Rattle.view_run.proofs.places.call_points.Given as goal

abbrev pub invariant-calls : goal.invariant-calls
invariant-calls l = l.points.items ++ map call_point l.rest ≡ map call_point l.calls

abbrev pub decreases-calls : goal.decreases-calls
decreases-calls l = length l.rest
