use Rattle.std.proofs.Common.{◌∙◌, arith, map}
use Rattle.rule_text.specs.Seen.{rules_seen}
use Rattle.net_phase.proofs.Wiring.{joins_all, joins_more}
use Rattle.net_phase.proofs.wires.joins_by.Goals as goal
use Rattle.net_phase.specs.Wires.{join_line}

pub loop-line-preserved : goal.loop-line-preserved
loop-line-preserved c =
    let r = rules_seen c.args.rules.now in
    c.in_ok-push_join.ensures ∙ joins_more r c.args.lines.now c.loop-line.line-index (0, 0) (map join_line c.loop-line.joins.items) (omega arith) c.loop-line.invariant

pub returns : goal.returns
returns c = c.loop-line.invariant ∙ joins_all (rules_seen c.args.rules.now) c.loop-line.line-index c.args.lines.now (omega arith)
