use Rattle.std.proofs.Common.{◌≡◌, ◌+◌, ◌++◌, length}
use Rattle.part_origins.specs.Kept.{going}
use Rattle.part_origins.proofs.kept.going_of.Given as goal

abbrev pub invariant-marks : goal.invariant-marks
invariant-marks l =
    (l.goes.items ++ going l.numbers l.c l.rest ≡ going l.numbers 0 l.marks)
    × (l.c + length l.rest ≡ length l.marks)

abbrev pub decreases-marks : goal.decreases-marks
decreases-marks l = length l.rest
