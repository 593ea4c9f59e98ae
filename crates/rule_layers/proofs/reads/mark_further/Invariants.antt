use Rattle.rule_layers.specs.Reads.{IsByFurther, Marks}
use Rattle.rule_layers.proofs.reads.mark_further.Given as goal

abbrev pub invariant-loop-rule : goal.invariant-loop-rule
invariant-loop-rule l = Marks (IsByFurther l.further l.rule-index) l.fn.marks.items l.marks.items
