use Rattle.rule_stages.specs.Marks.{AreFormedTo}
use Rattle.rule_stages.proofs.staging.stage_names.Given as goal

abbrev pub invariant-loop-at : goal.invariant-loop-at
invariant-loop-at l = AreFormedTo l.names l.selected l.marks l.at l.staged.items
