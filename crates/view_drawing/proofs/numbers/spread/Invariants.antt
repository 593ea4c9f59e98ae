use Rattle.std.proofs.Common.{◌≡◌, ◌++◌, length}
use Rattle.view_drawing.specs.Numbers.{spread}
use Rattle.view_drawing.proofs.numbers.spread.Given as goal

abbrev pub invariant-marks : goal.invariant-marks
invariant-marks l = l.out.items ++ spread l.rest l.left ≡ spread l.marks l.numbers

abbrev pub decreases-marks : goal.decreases-marks
decreases-marks l = length l.rest
