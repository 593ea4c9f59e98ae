use Rattle.std.proofs.Common.{◌≡◌, ◌+◌, ◌-◌, inl, inr, [], Some, false, arith, get_or, slice_get, subst}
use Rattle.base_laws.proofs.Tests.{true_or_not}
use Rattle.std.proofs.lemmas.Option.{slice_get-get_or}
use Rattle.rule_text.specs.declared.rules.LayerForm.TheVariants as form
use Rattle.rule_text.specs.declared.rules.LayerRule.{LayerRule}
use Rattle.layer_phase.proofs.Needing.{AreNeededFrom, needed_all, needed_more, needed_none, needed_skip}
use Rattle.layer_phase.proofs.groups.needed.Goals as goal

pub loop-name-init : goal.loop-name-init
loop-name-init c = (omega arith, needed_none c.args.members.now c.args.names.now c.in_ok-marks.marks.items (c.in_ok-marks.ensures.items_if_clones_equal (λ x y e. e)) c.requires.count)

pub loop-name-preserved : goal.loop-name-preserved
loop-name-preserved c =
    let v = c.loop-name.invariant in let members = c.args.members.now in let names = c.args.names.now in let old = c.loop-name.marks.items in let new = c.mark_below.new.marks.items in
    let k = c.loop-name.name - 1 in
    let some = c.loop-name-test.true in
    let up : c.loop-name.name ≡ k + 1 = omega arith in
    let most = v.0 in
    let had : AreNeededFrom members names old (k + 1) = subst (AreNeededFrom members names old) up v.1 in
    let none : LayerRule = record { name = []; form = form.Empty } in
    let rule = get_or names k none in
    let at : slice_get names k ≡ Some rule = slice_get-get_or names k none (omega arith) in (
      omega arith,
      elim (true_or_not (get_or old k false)) [
        | inl m ↦ needed_more members names old new k rule c.requires.sound at m (c.mark_below.ensures.marked rule at m) had
        | inr n ↦ needed_skip members names old new k (c.mark_below.ensures.other n) n had
      ],
    )

pub returns : goal.returns
returns c =
    let none = c.loop-name-test.false in
    needed_all c.args.members.now c.args.names.now c.loop-name.marks.items c.loop-name.name (omega arith) c.loop-name.invariant.1
