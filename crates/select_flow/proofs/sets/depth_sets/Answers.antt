use Rattle.std.proofs.Common.{◌≡◌, ℕ, List, Some, length, slice_get, subst, sym}
use Rattle.std.specs.Global.{Vec}
use Rattle.std.proofs.lemmas.Result.{IfOk-weaker}
use Rattle.cell_graph.specs.Linked.{plain}
use Rattle.depth_designs.specs.Chosen.{AreChosenTo}
use Rattle.further_layers.specs.Further.{lists_of}
use Rattle.geo_base.specs.declared.shapes.Rect.{Rect}
use Rattle.rule_layers.specs.Formulas.{formulas}
use Rattle.rule_stages.specs.StageRules.{AreStageNames, IsStageSelect, StageSelectLaw}
use Rattle.rule_stages.specs.Stages.{at_depth}
use Rattle.rule_text.specs.Rules.{Rules}
use Rattle.rule_text.specs.Seen.{rules_seen}
use Rattle.rule_text.specs.Sound.{IsSound}
use Rattle.rule_text.specs.declared.rules.LayerRule.{LayerRule}
use Rattle.rule_text.specs.declared.rules.SelectRule.{SelectRule}
use Rattle.select_flow.proofs.Choosing.{other_trees}
use Rattle.select_flow.proofs.sets.depth_sets.Goals as goal

-- each of the selections over the rules of their depth
each_select : StageSelectLaw → (r : Rules) (depth : ℕ) (selected : List SelectRule) (staged : List LayerRule) → IsSound r → selected ≡ at_depth r depth → AreStageNames r.names selected staged
    → (k : ℕ) (s : SelectRule) → slice_get selected k ≡ Some s → IsStageSelect r staged s
each_select law r depth selected staged sound is names k s at =
    law r depth k staged s sound (subst (λ (l : List SelectRule). AreStageNames r.names l staged) is names) (subst (λ (l : List SelectRule). slice_get l k ≡ Some s) is at)

pub zoned_sets-requires-clause-rules : goal.zoned_sets-requires-clause-rules
zoned_sets-requires-clause-rules g c κs within =
    let r = rules_seen c.args.rules.now in let staged = c.in_ok-stage.stage.names.items in
    subst IsSound (sym c.in_ok-stage.ensures.bare)
    (c.stage_laws.ensures.sound r c.args.depth staged c.requires.rules (subst (λ (l : List SelectRule). AreStageNames r.names l staged) c.requires.selected c.in_ok-stage.ensures.names))

pub zoned_sets-requires-clause-known : goal.zoned_sets-requires-clause-known
zoned_sets-requires-clause-known g c κs within k s at =
    let r = rules_seen c.args.rules.now in
    (each_select c.stage_laws.ensures.select r c.args.depth c.args.selected.now c.in_ok-stage.stage.names.items c.requires.rules c.requires.selected c.in_ok-stage.ensures.names k s at).known

pub returns : goal.returns
returns g c =
    let d = plain c.args.design.now in let r = rules_seen c.args.rules.now in let selected = c.args.selected.now in let staged = c.in_ok-stage.stage.names.items in
    IfOk-weaker c.zoned_sets.result (λ (v : Vec (Vec (List Rect))). AreChosenTo d (formulas staged) selected (length selected) (lists_of v.items))
    (λ (v : Vec (Vec (List Rect))). AreChosenTo d (formulas r.names) selected (length selected) (lists_of v.items))
    (λ v are. other_trees d (formulas staged) (formulas r.names) selected (length selected) (lists_of v.items)
    (λ k s at. (each_select c.stage_laws.ensures.select r c.args.depth selected staged c.requires.rules c.requires.selected c.in_ok-stage.ensures.names k s at).same) are)
    c.zoned_sets.ensures
