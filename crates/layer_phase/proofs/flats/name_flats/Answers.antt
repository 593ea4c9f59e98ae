use Rattle.std.proofs.Common.{◌≡◌, ◌∙◌, ◌+◌, ◌≤◌, ◌^◌, ◌++◌, ◌∷◌, [], ℕ, unsigned_abs, Some, List, arith, ap, sym, subst, drop, get_or, length, length-append}
use Rattle.std.proofs.lemmas.Option.{slice_get-get_or}
use Rattle.geo_base.specs.declared.shapes.Rect.{Rect}
use Rattle.flat_layout.specs.Layers.{Empty, reach}
use Rattle.rule_layers.specs.Formulas.{formula_by, formulas, formulas_behind}
use Rattle.sized_layers.specs.Sizes.{IsSetWithin}
use Rattle.layer_phase.specs.Names.{AreFlats}
use Rattle.layer_phase.proofs.Around.{wider_set}
use Rattle.layer_phase.proofs.Flattening.{flats_more, form_reach, is_size, one_on}
use Rattle.layer_phase.proofs.flats.name_flats.Goals as goal

pub form_flat-requires-clause-own : goal.form_flat-requires-clause-own
form_flat-requires-clause-own c = λ key e.
    let rule = c.rule-item.result in
    let at = slice_get-get_or c.args.names.now c.loop-rule.rule-index rule c.loop-rule-test.true ∙ ap Some (sym c.rule-item.is) in
    c.requires.own c.loop-rule.rule-index key (rule, at, e)

pub loop-rule-preserved : goal.loop-rule-preserved
loop-rule-preserved c =
    let had = c.loop-rule.invariant in let names = c.args.names.now in let rule = c.rule-item.result in let name = c.loop-rule.rule-index in
    let d = c.args.design.now in let looks = c.args.looks.now in let tree = formula_by had.0 rule.form in let sets = c.loop-rule.flats.items in let set = c.in_ok-set.set in
    let e : c.push.new.self.items ≡ sets ++ set ∷ [] = (c.in_ok-push.ensures {u = tt}).items in (
      had.0 ++ tree ∷ [],
      one_on had.0 names name rule c.loop-rule-test.true (sym c.rule-item.is) ∙ had.1,
      length-append had.0 (tree ∷ []) ∙ ap (λ (n : ℕ). n + 1) had.2,
      ap length e ∙ length-append sets (set ∷ []) ∙ ap (λ (n : ℕ). n + 1) had.3,
      subst (λ (l : List (List Rect)). AreFlats d c.args.cell looks (had.0 ++ tree ∷ []) l) (sym e)
          (flats_more d c.args.cell looks had.0 tree sets set (had.3 ∙ sym had.2) had.4
          (c.in_ok-set.ensures had.0 (subst (AreFlats d c.args.cell looks had.0) (sym c.deref.ensures.value) had.4))),
    )

pub form_flat-requires-clause-sized : goal.form_flat-requires-clause-sized
form_flat-requires-clause-sized c = λ a by is.
    let had = c.loop-rule.invariant in let names = c.args.names.now in let rule = c.rule-item.result in let name = c.loop-rule.rule-index in
    let tree = formula_by had.0 rule.form in
    let on : formulas_behind (had.0 ++ tree ∷ []) (drop (name + 1) names) ≡ formulas names = one_on had.0 names name rule c.loop-rule-test.true (sym c.rule-item.is) ∙ had.1 in
    let far : reach (get_or had.0 a Empty) + unsigned_abs by ≤ 10000 = form_reach had.0 names (drop (name + 1) names) name rule.form a by had.2 on is c.requires.reach in (
      is_size by (reach (get_or had.0 a Empty)) far,
      subst (λ (l : List (List Rect)). IsSetWithin (2 ^ 39) (get_or l a [])) (sym c.deref.ensures.value)
          (wider_set ((2 ^ 38) + reach (get_or had.0 a Empty)) (2 ^ 39) (get_or c.loop-rule.flats.items a []) (omega (arith, far)) ((had.4 a).range (2 ^ 38) c.requires.within)),
    )
