use Rattle.std.proofs.Common.{◌≡◌, ◌∙◌, ◌+◌, List, [], ◌∷◌, ◌++◌, Some, ap, false, get_or, slice_get, subst, sym}
use Rattle.std.specs.Global.{Vec}
use Rattle.std.proofs.lemmas.List.{map-append}
use Rattle.std.proofs.lemmas.Option.{slice_get-get_or}
use Rattle.cell_graph.specs.Linked.{plain}
use Rattle.depth_designs.specs.Chosen.{AreChosen, AreChosenTo}
use Rattle.further_layers.specs.Further.{lists_of}
use Rattle.geo_base.specs.declared.shapes.Rect.{Rect}
use Rattle.rule_layers.specs.Formulas.{formulas}
use Rattle.rule_stages.specs.Selections.{select_of}
use Rattle.rule_text.specs.declared.rules.Ask.TheVariants.{Interacting}
use Rattle.rule_text.specs.declared.rules.SelectRule.{SelectRule}
use Rattle.select_flow.specs.Sets.{chosen_sets}
use Rattle.select_flow.proofs.Choosing.{chosen_known, chosen_more}
use Rattle.select_flow.proofs.sets.select_sets.Goals as goal

none : SelectRule
none = record { name = 0; ask = Interacting; others = false; region = 0; other = 0 }

pub find_selection-requires-clause-known : goal.find_selection-requires-clause-known
unfolding none
find_selection-requires-clause-known c =
    let selected = c.args.selected.now in let k = c.loop-k.k in
    c.requires.known k (get_or selected k none) (slice_get-get_or selected k none c.loop-k-test.true)

pub loop-k-preserved : goal.loop-k-preserved
unfolding none
loop-k-preserved c =
    let d = plain c.args.design.now in let trees = formulas c.args.stage.now.names.items in let selected = c.args.selected.now in let k = c.loop-k.k in
    let s = get_or selected k none in let set = c.in_ok-chosen.chosen.items in let lists = lists_of c.loop-k.sets.items in
    let at : slice_get selected k ≡ Some s = slice_get-get_or selected k none c.loop-k-test.true in
    let is : AreChosen d (select_of trees s) set =
    subst (AreChosen d (select_of trees s)) (sym (c.in_ok-chosen.ensures ∙ ap chosen_sets c.deref.ensures.value))
    (chosen_known d (select_of trees s) c.in_ok-found.found.items c.in_ok-found.ensures.found c.in_ok-found.ensures.none c.in_ok-found.ensures.parted) in
    let all : lists_of c.push.new.self.items ≡ lists ++ set ∷ [] = ap lists_of c.in_ok-push.ensures.items ∙ map-append (λ (v : Vec (List Rect)). v.items) c.loop-k.sets.items (c.in_ok-chosen.chosen ∷ []) in
    subst (AreChosenTo d trees selected (k + 1)) (sym all) (chosen_more d trees selected k s set lists at is c.loop-k.invariant)
