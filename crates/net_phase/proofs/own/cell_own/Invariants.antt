use Rattle.cell_graph.specs.Linked.{plain}
use Rattle.rule_text.specs.Seen.{rules_seen}
use Rattle.net_phase.proofs.Layering.{AreOwnTo}
use Rattle.net_phase.proofs.own.cell_own.Given as goal
use Rattle.net_phase.specs.Own.{rects_of}

abbrev pub invariant-loop-conductor : goal.invariant-loop-conductor
invariant-loop-conductor l = AreOwnTo (plain l.design) (rules_seen l.rules) l.cell l.conductor (rects_of l.own.items)
