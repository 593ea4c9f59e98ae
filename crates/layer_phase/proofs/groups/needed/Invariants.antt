use Rattle.std.proofs.Common.{◌≤◌, length}
use Rattle.layer_phase.proofs.Needing.{AreNeededFrom}
use Rattle.layer_phase.proofs.groups.needed.Given as goal

abbrev pub invariant-loop-name : goal.invariant-loop-name
invariant-loop-name l = (l.name ≤ length l.names) × AreNeededFrom l.members l.names l.marks.items l.name

abbrev pub decreases-loop-name : goal.decreases-loop-name
decreases-loop-name l = l.name
