use Rattle.std.proofs.Common.{◌≡◌, ◌++◌, length}
use Rattle.gds_elements.specs.Data.{points_of}
use Rattle.gds_elements.proofs.points.points.Given as goal

abbrev pub invariant-loop-rest : goal.invariant-loop-rest
invariant-loop-rest l = l.points.items ++ points_of l.rest ≡ points_of l.body

abbrev pub decreases-loop-rest : goal.decreases-loop-rest
decreases-loop-rest l = length l.rest
