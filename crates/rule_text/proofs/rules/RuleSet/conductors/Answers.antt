use Rattle.std.proofs.Common.{◌∙◌, arith}
use Rattle.std.proofs.lemmas.List.{length_push}
use Rattle.rule_text.specs.Seen.{rules_seen}
use Rattle.rule_text.proofs.ListLemmas.{tells_more}
use Rattle.rule_text.proofs.rules.RuleSet.conductors.Goals as goal

pub loop-layer-preserved : goal.loop-layer-preserved
loop-layer-preserved c =
    rw c.in_ok-push.ensures.items (
      length_push _ _ ∙ omega (arith, c.loop-layer.invariant.0),
      tells_more c.loop-layer.table.items c.loop-layer.layer c.is_conductor.result (rules_seen c.args.self.now) c.loop-layer.invariant.0 c.is_conductor.ensures c.loop-layer.invariant.1,
    )
