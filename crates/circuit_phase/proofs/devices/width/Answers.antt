use Rattle.std.proofs.Common.{◌≡◌, ◌<◌, ◌∙◌, ◌+◌, ◌-◌, ap, arith, length}
use Rattle.std.proofs.lemmas.Option.{get_or_from_slice_get}
use Rattle.flat_layout.specs.Gates.{Rule, width_of}
use Rattle.rule_layers.specs.Meaning.{more_rule}
use Rattle.rule_text.specs.Seen.{rules_seen}
use Rattle.rule_text.specs.declared.rules.MoreRule.{MoreRule}
use Rattle.circuit_phase.proofs.Ruled.{is_mos, is_more}
use Rattle.circuit_phase.proofs.devices.width.Goals as goal

pub returns-then-at-count : goal.returns-then-at-count
returns-then-at-count c = λ u h.
    let r = rules_seen c.args.rules.now in
    let lt : c.args.device < length r.devices = omega (arith, c.if-at-count.true, c.len-count.ensures) in
    let m = is_mos r c.args.device u lt h in
    c.in_ok-width.ensures.size ∙ ap (λ (v : Rule). width_of v c.args.unit_pm c.args.twice_w) m.2

pub returns : goal.returns
returns c = λ u h.
    let r = rules_seen c.args.rules.now in
    let k = c.args.device - c.len-count.result in
    let e : c.args.device ≡ length r.devices + k = omega (arith, c.if-at-count.false, c.len-count.ensures) in
    let m = is_more r c.args.device k u e h in
    let is : c.index.result.now ≡ m.0 = c.index.ensures ∙ get_or_from_slice_get r.more k m.0 c.index.result.now m.1 in
    c.in_ok-width-2.ensures r ∙ ap (λ (x : MoreRule). width_of (more_rule r x) c.args.unit_pm c.args.twice_w) is ∙ ap (λ (v : Rule). width_of v c.args.unit_pm c.args.twice_w) m.2
