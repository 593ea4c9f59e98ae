use Rattle.std.proofs.Common.{◌≡◌, ◌∙◌, ◌+◌, ◌<◌, Some, ap, arith, false, get_or, length, refl, slice_get, subst, sym}
use Rattle.std.proofs.lemmas.Option.{get_or_from_slice_get, slice_get_read, same_Some}
use Rattle.rule_text.specs.declared.rules.LayerRule.{LayerRule}
use Rattle.rule_layers.specs.Reads.{read_form}
use Rattle.rule_layers.proofs.Unread.{AreReadTo, read_all, read_more}
use Rattle.rule_layers.proofs.reads.read_names.Goals as goal

pub loop-k-preserved : goal.loop-k-preserved
loop-k-preserved c =
    let names = c.args.names.now in let k = c.loop-k.k in let rule = c.index-names-k.result in let again = c.index-names-k-in-loop-k.result in
    let marks = c.in_ok-marks.marks.items in
    let at : slice_get names k ≡ Some rule = slice_get_read names (length names) k rule refl c.loop-k-test.true c.index-names-k.is in
    let at_again : slice_get names k ≡ Some again = slice_get_read names (length names) k again refl c.loop-k-test.true c.index-names-k-in-loop-k.is in
    let same : again ≡ rule = same_Some again rule (sym at_again ∙ at) in
    let inside : k < length marks = (let m = c.in_ok-marks.ensures.count in let lt = c.loop-k-test.true in omega arith) in
    let seen : LayerRule = record { name = c.in_ok-name.name; form = c.read_form.result } in
    let form_is : c.read_form.result ≡ read_form (get_or marks k false) rule.form =
    c.read_form.ensures ∙ ap (λ (r : LayerRule). read_form c.index.result.now r.form) (sym c.index-names-k-in-loop-k.is) ∙ ap (λ b. read_form b again.form) (sym (get_or_from_slice_get marks k c.index.result.now false (slice_get_read marks (length marks) k c.index.result.now refl inside c.index.ensures))) ∙ ap (λ (r : LayerRule). read_form (get_or marks k false) r.form) same in
    subst (AreReadTo names c.args.devices.now c.args.further.now (k + 1)) (sym c.in_ok-push.ensures.items)
    (read_more names c.args.devices.now c.args.further.now marks k rule seen c.loop-k.read.items inside c.in_ok-marks.ensures.marked at form_is c.loop-k.invariant)

pub returns : goal.returns
returns c =
    let end : c.loop-k.k ≡ length c.args.names.now = (let a = c.loop-k-test.false in let b = c.loop-k.auto.k-end in omega arith) in
    read_all c.args.names.now c.args.devices.now c.args.further.now c.loop-k.k c.loop-k.read.items end c.loop-k.invariant
