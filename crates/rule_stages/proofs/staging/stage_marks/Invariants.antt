use Rattle.std.proofs.Common.{◌≤◌, length}
use Rattle.rule_stages.specs.Marks.{AreMarkedFrom}
use Rattle.rule_stages.proofs.staging.stage_marks.Given as goal

abbrev pub invariant-loop-at : goal.invariant-loop-at
invariant-loop-at l = (l.at ≤ length l.names) × AreMarkedFrom l.names l.selected l.at l.marks.items

abbrev pub decreases-loop-at : goal.decreases-loop-at
decreases-loop-at l = l.at
