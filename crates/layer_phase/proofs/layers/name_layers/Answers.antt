use Rattle.std.proofs.Common.{◌≡◌, ◌∙◌, List, Some, ap, arith, length, refl, slice_get, subst, sym}
use Rattle.std.proofs.lemmas.Option.{slice_get_read}
use Rattle.rule_text.specs.declared.rules.LayerRule.{LayerRule}
use Rattle.layer_phase.specs.Groups.{ArePlain, IsGroup}
use Rattle.rule_layers.specs.Formulas.{formulas}
use Rattle.layer_phase.proofs.Grouping.{all_done, done_more, done_none}
use Rattle.layer_phase.proofs.layers.name_layers.Goals as goal

pub loop-group-init : goal.loop-group-init
loop-group-init c = done_none c.args.work.now.design.now c.args.work.now.cell (formulas c.args.work.now.rules.now.names.items) c.args.groups.now c.in_ok-layers.layers.items
    (c.in_ok-layers.ensures.count ∙ ap (λ (l : List LayerRule). length (formulas l)) c.deref.ensures.value)
    (subst (λ (l : List LayerRule). ArePlain c.args.work.now.design.now c.args.work.now.cell (formulas l) c.in_ok-layers.layers.items) c.deref.ensures.value c.in_ok-layers.ensures.layers)

pub find_group-requires-clause-group : goal.find_group-requires-clause-group
find_group-requires-clause-group c =
    let groups = c.args.groups.now in let i = c.loop-group.group-index in let g = c.group-item.result in
    subst (IsGroup c.args.work.now.rules.now.names.items) (sym c.group-item.is) (c.requires.groups.each i g c.loop-group-test.true)

pub find_group-requires-clause-layers : goal.find_group-requires-clause-layers
find_group-requires-clause-layers c = c.loop-group.invariant.count

pub loop-group-preserved : goal.loop-group-preserved
loop-group-preserved c =
    let groups = c.args.groups.now in let i = c.loop-group.group-index in let g = c.group-item.result in
    let at : slice_get groups i ≡ Some g = slice_get_read groups (length groups) i g refl c.loop-group-test.true c.group-item.is in
    done_more c.args.work.now.design.now c.args.work.now.cell (formulas c.args.work.now.rules.now.names.items) groups i g c.loop-group.layers.items c.find_group.new.layers.items at c.in_ok-find_group.ensures c.loop-group.invariant

pub returns-clause-layers : goal.returns-clause-layers
returns-clause-layers c =
    let end : c.loop-group.group-index ≡ length c.args.groups.now = (let a = c.loop-group-test.false in let b = c.loop-group.auto.group-index-end in omega arith) in
    all_done c.args.work.now.design.now c.args.work.now.cell c.loop-group.group-index c.args.work.now.rules.now.names.items c.args.groups.now c.loop-group.layers.items end c.requires.groups c.loop-group.invariant
