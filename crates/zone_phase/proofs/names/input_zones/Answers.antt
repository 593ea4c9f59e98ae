use Rattle.std.proofs.Common.{◌≡◌, ◌∙◌, ◌+◌, ◌++◌, ◌∷◌, [], ℕ, Some, List, ap, arith, refl, sym, subst, drop, length-append, slice_get}
use Rattle.std.specs.List.{All}
use Rattle.std.proofs.lemmas.List.{at_drop_all}
use Rattle.std.proofs.lemmas.List.Elements.{All-nil}
use Rattle.geo_base.specs.declared.layer.LayerKey.{LayerKey}
use Rattle.geo_base.specs.declared.shapes.Rect.{Rect}
use Rattle.rect_sets.specs.Rects.{IsCanonical}
use Rattle.flat_layout.specs.Layers.{Formula}
use Rattle.rule_layers.specs.Formulas.{formulas, formula_by, formulas_behind}
use Rattle.deep_tables.specs.Frames.{IsFramedZone}
use Rattle.zone_phase.specs.Names.{AreInputZones}
use Rattle.zone_phase.specs.Neighbours.{AreNear}
use Rattle.zone_phase.specs.declared.neighbours.Neighbour.{Neighbour}
use Rattle.zone_phase.proofs.Naming.{behind_stays, form_entries, inputs_more, no_inputs, one_on}
use Rattle.zone_phase.proofs.names.input_zones.Goals as goal

pub form_zone-requires-clause-entries : goal.form_zone-requires-clause-entries
form_zone-requires-clause-entries g c =
    let had = c.loop-name.invariant in let names = c.args.names.now in let rule = c.index-names-name.result in let name = c.loop-name.name in
    form_entries c.args.used.now.margin c.args.used.now.design.now (g.R.Reads.value c.args.reads.now) had.0 (formulas names) name c.args.used.now.uses.now rule.form had.2
    (λ k x e. subst (λ (l : List Formula). slice_get l k ≡ Some x) (one_on had.0 names name rule c.loop-name-test.true (sym c.index-names-name.is) ∙ had.1) (behind_stays (had.0 ++ formula_by had.0 rule.form ∷ []) (drop (name + 1) names) k x e))
    c.requires.entries

pub loop-name-preserved : goal.loop-name-preserved
loop-name-preserved g c =
    let had = c.loop-name.invariant in let names = c.args.names.now in let rule = c.index-names-name.result in let name = c.loop-name.name in
    let n = c.args.used.now.margin in let d = c.args.used.now.design.now in let cell = c.args.used.now.cell in
    let tree = formula_by had.0 rule.form in let sets = c.loop-name.sets.items in let set = c.in_ok-set.set in (
      had.0 ++ tree ∷ [],
      one_on had.0 names name rule c.loop-name-test.true (sym c.index-names-name.is) ∙ had.1,
      length-append had.0 (tree ∷ []) ∙ ap (λ (k : ℕ). k + 1) had.2,
      subst (AreInputZones n d cell (had.0 ++ tree ∷ [])) (sym c.in_ok-push_set.ensures.list)
          (inputs_more (λ key. IsFramedZone n d (key ∷ []) cell) had.0 rule.form sets set had.3 c.in_ok-set.ensures),
      c.in_ok-push_set.ensures.canonical,
    )

pub loop-name-init : goal.loop-name-init
loop-name-init g c =
    let n = c.args.used.now.margin in let d = c.args.used.now.design.now in let cell = c.args.used.now.cell in let e = c.new-sets.ensures.items in (
      [],
      refl,
      refl,
      subst (λ (l : List (List Rect)). AreInputZones n d cell [] l) (sym e) (no_inputs (λ (key : LayerKey). IsFramedZone n d (key ∷ []) cell)),
      subst (λ (l : List (List Rect)). All IsCanonical l) (sym e) (All-nil IsCanonical),
    )

pub form_zone-requires-clause-neighbours : goal.form_zone-requires-clause-neighbours
form_zone-requires-clause-neighbours g c =
    subst (λ (l : List Neighbour). AreNear c.args.used.now.margin c.args.used.now.design.now c.args.used.now.cell c.args.used.now.uses.now l) (sym c.deref.ensures.value) c.in_ok-neighbours.ensures

pub returns-clause-zones : goal.returns-clause-zones
returns-clause-zones g c =
    let had = c.loop-name.invariant in let names = c.args.names.now in
    let all : had.0 ≡ formulas names = sym (at_drop_all (formulas_behind had.0) names c.loop-name.name (let past = c.loop-name-test.false in omega arith)) ∙ had.1 in
    subst (λ (trees : List Formula). AreInputZones c.args.used.now.margin c.args.used.now.design.now c.args.used.now.cell trees c.loop-name.sets.items) all had.3
