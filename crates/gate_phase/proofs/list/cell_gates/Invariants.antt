use Rattle.cell_graph.specs.Linked.{plain}
use Rattle.rule_text.specs.Seen.{rules_seen}
use Rattle.gate_phase.specs.Judged.{GoOn}
use Rattle.gate_phase.proofs.list.cell_gates.Given as goal

abbrev pub invariant-loop-device : goal.invariant-loop-device
invariant-loop-device g l = GoOn (plain l.site.design.now) (rules_seen l.site.rules.now) l.site.cell l.from l.device l.gates.items
