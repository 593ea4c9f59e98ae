use Rattle.std.proofs.Common.{List, subst, sym}
use Rattle.rule_text.specs.Seen.{rules_seen}
use Rattle.rule_text.specs.declared.rules.LayerRule.{LayerRule}
use Rattle.rule_stages.specs.Marks.{AreBelow}
use Rattle.rule_stages.proofs.Marking.{are_below, told_names}
use Rattle.rule_stages.proofs.staging.stage_rules.Goals as goal

pub stage_marks-requires : goal.stage_marks-requires
stage_marks-requires c =
    subst (λ (l : List LayerRule). AreBelow l c.args.selected.now) (sym c.deref.ensures.value) (are_below (rules_seen c.args.rules.now) c.args.selected.now c.requires.sound.formed c.requires.selects)

pub returns-clause-names : goal.returns-clause-names
returns-clause-names c =
    told_names c.args.rules.now.names.items c.deref.result.now c.deref-2.result.now c.args.selected.now c.in_ok-marks.marks.items c.deref-3.result.now c.in_ok-names.names.items c.deref.ensures.value c.deref-2.ensures.value
    c.deref-3.ensures.value c.in_ok-marks.ensures c.in_ok-names.ensures
