use Rattle.std.proofs.Common.{subst}
use Rattle.cell_graph.specs.Linked.{plain}
use Rattle.rule_text.specs.Seen.{rules_seen}
use Rattle.rule_layers.specs.Meaning.{wiring_of}
use Rattle.gate_shapes.specs.Sets.{in_set}
use Rattle.gate_phase.specs.Own.{IsOwnOr}
use Rattle.gate_phase.proofs.Holding.{one_least}
use Rattle.gate_phase.proofs.Results.{on_ok}
use Rattle.gate_phase.proofs.own.push_part.Goals as goal

pub returns-in_ok-gate-in-Some : goal.returns-in_ok-gate-in-Some
returns-in_ok-gate-in-Some c =
    on_ok _ _ c.push_gate.result
    (λ e u at is. record {
      gate = c.in_ok-gate-in-Some.gate;
      added = e;
      right = λ s least. subst (λ x. IsOwnOr (plain c.args.at.now.site.design.now) (wiring_of (rules_seen c.args.at.now.site.rules.now)) u c.args.at.now.site.cell c.args.part x c.in_ok-gate-in-Some.gate) (one_least (in_set c.args.part) _ s c.in-Some.ensures least) (c.in_ok-gate-in-Some.ensures u at is);
    })
    c.push_gate.ensures
