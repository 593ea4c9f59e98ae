use Rattle.std.proofs.Common.{◌≡◌, ◌++◌, length}
use Rattle.flat_layout.specs.Circuits.{both}
use Rattle.view_drawing.proofs.called.both.Given as goal

abbrev pub invariant-marks : goal.invariant-marks
invariant-marks l = l.out.items ++ both l.rest l.behind ≡ both l.some l.others

abbrev pub decreases-marks : goal.decreases-marks
decreases-marks l = length l.rest
