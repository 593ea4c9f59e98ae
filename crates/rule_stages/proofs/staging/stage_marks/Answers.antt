use Rattle.std.proofs.Common.{◌≡◌, ◌<◌, ◌+◌, ◌-◌, ◌∙◌, Some, ap, arith, false, get_or, length, refl, slice_get, subst, sym}
use Rattle.std.proofs.lemmas.Option.{get_or_from_slice_get, slice_get_read}
use Rattle.rule_text.specs.declared.rules.LayerForm.{LayerForm}
use Rattle.rule_text.specs.declared.rules.LayerRule.{LayerRule}
use Rattle.rule_layers.specs.Reads.{Marks, Reads}
use Rattle.rule_stages.specs.Depths.{select_at}
use Rattle.rule_stages.specs.Marks.{stage_form, AreMarkedFrom}
use Rattle.rule_stages.proofs.Marking.{marked_more}
use Rattle.rule_stages.proofs.staging.stage_marks.Goals as goal

pub loop-at-preserved : goal.loop-at-preserved
loop-at-preserved c =
    let names = c.args.names.now in let selected = c.args.selected.now in let k = c.loop-at.at - 1 in
    let old = c.loop-at.marks.items in let new = c.mark_operands.new.marks.items in
    let rule = c.index-names-at.result in let mark = c.index.result.now in
    let most = c.loop-at.invariant.0 in let over = c.loop-at-test.true in
    let on : c.loop-at.at ≡ k + 1 = omega (arith, over) in
    let lt : k < length names = omega (arith, most, on) in
    let long = c.loop-at.invariant.1.long in
    let in_ : k < length old = omega (arith, lt, long) in
    let at : slice_get names k ≡ Some rule = slice_get_read names (length names) k rule refl lt c.index-names-at.is in
    let read : get_or old k false ≡ mark = get_or_from_slice_get old k mark false (slice_get_read old (length old) k mark refl in_ c.index.ensures) in
    let form_is : c.stage_form-form.result ≡ stage_form (select_at selected k) (get_or old k false) rule.form =
    c.stage_form-form.ensures ∙ ap (λ (r : LayerRule). stage_form c.select_at.result mark r.form) (sym c.index-names-at.is) ∙ ap (λ o. stage_form o mark rule.form) c.select_at.ensures ∙ ap (λ b. stage_form (select_at selected k) b rule.form) (sym read) in (
      omega (arith, most, on),
      marked_more names selected k rule old new c.requires at (subst (λ (f : LayerForm). Marks (Reads f) old new) form_is c.mark_operands.ensures) (subst (λ n. AreMarkedFrom names selected n old) on c.loop-at.invariant.1),
    )
