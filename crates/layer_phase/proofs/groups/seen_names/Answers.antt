use Rattle.std.proofs.Common.{◌≡◌, ◌∙◌, ◌+◌, Some, ap, arith, false, get_or, length, refl, slice_get, subst, sym}
use Rattle.std.proofs.lemmas.Option.{slice_get_read, same_Some}
use Rattle.rule_text.specs.declared.rules.LayerRule.{LayerRule}
use Rattle.layer_phase.specs.Groups.{seen_form}
use Rattle.layer_phase.proofs.Needing.{AreSeenTo, seen_all, seen_more}
use Rattle.layer_phase.proofs.groups.seen_names.Goals as goal

pub loop-k-preserved : goal.loop-k-preserved
loop-k-preserved c =
    let names = c.args.names.now in let k = c.loop-k.k in let rule = c.index-names-k.result in let again = c.index-names-k-in-loop-k.result in
    let marks = c.args.marks.now in
    let at : slice_get names k ≡ Some rule = slice_get_read names (length names) k rule refl c.loop-k-test.true c.index-names-k.is in
    let at_again : slice_get names k ≡ Some again = slice_get_read names (length names) k again refl c.loop-k-test.true c.index-names-k-in-loop-k.is in
    let same : again ≡ rule = same_Some again rule (sym at_again ∙ at) in
    let seen : LayerRule = record { name = c.in_ok-name.name; form = c.seen_form.result } in
    let form_is : c.seen_form.result ≡ seen_form (get_or marks k false) rule.form =
    c.seen_form.ensures ∙ ap (λ (r : LayerRule). seen_form (get_or marks k false) r.form) (sym c.index-names-k-in-loop-k.is ∙ same) in
    subst (AreSeenTo names marks (k + 1)) (sym c.in_ok-push.ensures.items) (seen_more names marks k rule seen c.loop-k.seen.items at form_is c.loop-k.invariant)

pub returns : goal.returns
returns c =
    let end : c.loop-k.k ≡ length c.args.names.now = (let a = c.loop-k-test.false in let b = c.loop-k.auto.k-end in omega arith) in
    seen_all c.args.names.now c.args.marks.now c.loop-k.k c.loop-k.seen.items end c.loop-k.invariant
