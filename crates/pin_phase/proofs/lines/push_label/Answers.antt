use Rattle.std.proofs.Common.{◌≡◌, ◌∙◌, List, None, Some, ap, sym, slice_get}
use Rattle.std.proofs.lemmas.Option.{slice_get-get_or, slice_get_past}
use Rattle.rule_layers.specs.Meaning.{form_texts}
use Rattle.rule_text.specs.Seen.{rules_seen}
use Rattle.rule_text.specs.declared.rules.LayerRule.{LayerRule}
use Rattle.pin_phase.proofs.Lining.{label_more, label_none, no_labels, nothing_none}
use Rattle.pin_phase.proofs.lines.push_label.Goals as goal

pub returns-in_ok-push : goal.returns-in_ok-push
returns-in_ok-push c =
    let r = rules_seen c.args.rules.now in let l = c.in-Some.ensures.lookup in let rule = c.in-Some.rule.now in
    let there : slice_get r.names c.args.name ≡ Some rule =
    ap (λ (l : List LayerRule). slice_get l c.args.name) (sym c.deref.ensures.value) ∙ slice_get-get_or c.deref.result.now c.args.name rule l.3.0 ∙ ap (λ (x : LayerRule). Some x) (sym l.1) in
    label_more r c.args.name c.args.conductor rule c.in-Labels.key c.args.lines.now.items c.push.new.self.items there (ap form_texts c.in-Labels.is) c.in_ok-push.ensures.items

pub returns-in_default-form : goal.returns-in_default-form
returns-in_default-form c =
    let r = rules_seen c.args.rules.now in let l = c.in-Some.ensures.lookup in let rule = c.in-Some.rule.now in
    let there : slice_get r.names c.args.name ≡ Some rule =
    ap (λ (l : List LayerRule). slice_get l c.args.name) (sym c.deref.ensures.value) ∙ slice_get-get_or c.deref.result.now c.args.name rule l.3.0 ∙ ap (λ (x : LayerRule). Some x) (sym l.1) in
    label_none r c.args.name c.args.conductor (Some rule) c.args.lines.now.items there (no_labels rule.form c.in_default-form.not-Labels)

pub returns-in_default : goal.returns-in_default
returns-in_default c =
    let r = rules_seen c.args.rules.now in
    let l = c.in_default.ensures.lookup in
    let there : slice_get r.names c.args.name ≡ None = ap (λ (l : List LayerRule). slice_get l c.args.name) (sym c.deref.ensures.value) ∙ slice_get_past c.deref.result.now c.args.name l.3 in
    label_none r c.args.name c.args.conductor None c.args.lines.now.items there nothing_none
