use Rattle.std.proofs.Common.{◌≡◌, ◌∙◌, ◌+◌, ◌<◌, ◌≤◌, ◌^◌, ◌++◌, ◌∷◌, [], ℕ, unsigned_abs, Some, List, ap, arith, sym, subst, drop, get_or, length, length-append, slice_get}
use Rattle.std.proofs.lemmas.List.{at_drop_all}
use Rattle.geo_base.specs.declared.shapes.Rect.{Rect}
use Rattle.flat_layout.specs.Layers.{Formula, Empty, reach}
use Rattle.flat_layout.specs.Values.{IsZone}
use Rattle.cell_graph.specs.Linked.{plain}
use Rattle.rule_layers.specs.Formulas.{formula_by, formulas, formulas_behind}
use Rattle.sized_layers.specs.Sizes.{IsSetWithin}
use Rattle.zone_phase.specs.Lone.{AreLones, IsNearZone}
use Rattle.zone_phase.proofs.Entries.{at_any}
use Rattle.zone_phase.proofs.Loning.{form_reach, lones_more, near_zones}
use Rattle.zone_phase.proofs.Naming.{behind_stays, count_behind, input_here, last_set, one_on}
use Rattle.zone_phase.proofs.Nearby.{is_size, wider_set}
use Rattle.zone_phase.proofs.lone.name_lones.Goals as goal

pub bounds-zones-name : goal.bounds-zones-name
bounds-zones-name c = let a = count_behind [] c.args.names.now in let b = c.requires.zones.count in let lt = c.loop-name-test.true in omega (arith, a, b, lt)

pub form_lone-requires : goal.form_lone-requires
form_lone-requires c = record {
  sized = λ a by is.
      let had = c.loop-name.invariant in let names = c.args.names.now in let rule = c.index-names-name.result in let name = c.loop-name.name in
      let tree = formula_by had.0 rule.form in let sets = c.loop-name.sets.items in
      let on : formulas_behind (had.0 ++ tree ∷ []) (drop (name + 1) names) ≡ formulas names = one_on had.0 names name rule c.loop-name-test.true (sym c.index-names-name.is) ∙ had.1 in
      let far : reach (get_or had.0 a Empty) + unsigned_abs by ≤ 10000 = form_reach had.0 names (drop (name + 1) names) name rule.form a by had.2 on is c.requires.reach in (
        is_size by (reach (get_or had.0 a Empty)) far,
        subst (λ (l : List (List Rect)). IsSetWithin (2 ^ 39) (get_or l a [])) (sym c.deref.ensures.value)
            (wider_set (2 ^ 37 + reach (get_or had.0 a Empty)) (2 ^ 39) (get_or sets a []) (omega (arith, far)) (had.4 a).range),
      );
}

pub loop-name-preserved : goal.loop-name-preserved
loop-name-preserved c =
    let had = c.loop-name.invariant in let names = c.args.names.now in let rule = c.index-names-name.result in let name = c.loop-name.name in
    let n = c.args.used.now.margin in let d = c.args.used.now.design.now in let cell = c.args.used.now.cell in
    let zones = c.args.zones.now in
    let a = count_behind [] names in let b = c.requires.zones.count in let lt = c.loop-name-test.true in
    let within : name < length zones = omega (arith, a, b, lt) in
    let tree = formula_by had.0 rule.form in let sets = c.loop-name.sets.items in let set = c.in_ok-set.set in let e = c.in_ok-push_set.ensures.list in
    let near : IsNearZone n d cell rule.form c.index-zones-name.result =
    subst (IsNearZone n d cell rule.form) (sym (c.index-zones-name.is ∙ at_any zones name c.index-zones-name.result [] within))
    (input_here (λ key v. IsZone (plain d) (key ∷ []) n cell v × IsSetWithin (2 ^ 37) v) had.0 (formulas names) name rule.form zones had.2
    (λ k x e. subst (λ (l : List Formula). slice_get l k ≡ Some x) (one_on had.0 names name rule c.loop-name-test.true (sym c.index-names-name.is) ∙ had.1) (behind_stays (had.0 ++ formula_by had.0 rule.form ∷ []) (drop (name + 1) names) k x e))
    (near_zones n d cell (formulas names) zones c.sound.ensures c.requires.used.margin c.requires.canonical c.requires.zones)) in (
      had.0 ++ tree ∷ [],
      one_on had.0 names name rule c.loop-name-test.true (sym c.index-names-name.is) ∙ had.1,
      length-append had.0 (tree ∷ []) ∙ ap (λ (k : ℕ). k + 1) had.2,
      ap length e ∙ length-append sets (set ∷ []) ∙ ap (λ (k : ℕ). k + 1) had.3,
      subst (AreLones n d cell (had.0 ++ tree ∷ [])) (sym e)
          (lones_more n d cell had.0 tree sets set (had.3 ∙ sym had.2) had.4
          (c.in_ok-set.ensures n d cell had.0 (subst (AreLones n d cell had.0) (sym c.deref.ensures.value) had.4) near (last_set sets c.push_set.new.sets.items set e c.in_ok-push_set.ensures.canonical))),
      c.in_ok-push_set.ensures.canonical,
    )

pub returns : goal.returns
returns c =
    let had = c.loop-name.invariant in let names = c.args.names.now in
    let all : had.0 ≡ formulas names = sym (at_drop_all (formulas_behind had.0) names c.loop-name.name (let past = c.loop-name-test.false in omega arith)) ∙ had.1 in
    subst (λ (trees : List Formula). AreLones c.args.used.now.margin c.args.used.now.design.now c.args.used.now.cell trees c.loop-name.sets.items) all had.4
