use Rattle.rule_layers.specs.Reads.{IsByName, Marks}
use Rattle.rule_layers.proofs.reads.mark_names.Given as goal

abbrev pub invariant-loop-rule : goal.invariant-loop-rule
invariant-loop-rule l = Marks (IsByName l.names l.rule-index) l.fn.marks.items l.marks.items
