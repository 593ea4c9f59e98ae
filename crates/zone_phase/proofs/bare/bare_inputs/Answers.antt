use Rattle.std.proofs.Common.{◌≡◌, ◌∙◌, ◌+◌, ◌<◌, ◌++◌, ◌∷◌, [], ℕ, Some, List, ap, arith, sym, subst, drop, length, length-append, slice_get}
use Rattle.flat_layout.specs.Layers.{Formula}
use Rattle.rule_layers.specs.Formulas.{formula_by, formulas}
use Rattle.deep_tables.specs.Frames.{IsFramedOpen, IsFramedZone}
use Rattle.zone_phase.specs.Names.{AreInputOpens, IsFormZone}
use Rattle.zone_phase.proofs.Entries.{at_any}
use Rattle.zone_phase.proofs.Naming.{behind_stays, count_behind, input_here, inputs_more, last_set, one_on}
use Rattle.zone_phase.proofs.bare.bare_inputs.Goals as goal

pub bounds-zones-name : goal.bounds-zones-name
bounds-zones-name c = let a = count_behind [] c.args.names.now in let b = c.requires.zones.count in let lt = c.loop-name-test.true in omega (arith, a, b, lt)

pub form_bare-requires-clause-zone : goal.form_bare-requires-clause-zone
form_bare-requires-clause-zone c =
    let had = c.loop-name.invariant in let names = c.args.names.now in let rule = c.index-names-name.result in let name = c.loop-name.name in
    let n = c.args.used.now.margin in let d = c.args.used.now.design.now in let cell = c.args.used.now.cell in
    let zones = c.args.zones.now in
    let a = count_behind [] names in let b = c.requires.zones.count in let lt = c.loop-name-test.true in
    let within : name < length zones = omega (arith, a, b, lt) in
    subst (IsFormZone n d cell rule.form) (sym (c.index-zones-name.is ∙ at_any zones name c.index-zones-name.result [] within))
    (input_here (λ key. IsFramedZone n d (key ∷ []) cell) had.0 (formulas names) name rule.form zones had.2
    (λ k x e. subst (λ (l : List Formula). slice_get l k ≡ Some x) (one_on had.0 names name rule c.loop-name-test.true (sym c.index-names-name.is) ∙ had.1) (behind_stays (had.0 ++ formula_by had.0 rule.form ∷ []) (drop (name + 1) names) k x e))
    c.requires.zones)

pub loop-name-preserved : goal.loop-name-preserved
loop-name-preserved c =
    let had = c.loop-name.invariant in let names = c.args.names.now in let rule = c.index-names-name.result in let name = c.loop-name.name in
    let n = c.args.used.now.margin in let d = c.args.used.now.design.now in let cell = c.args.used.now.cell in
    let tree = formula_by had.0 rule.form in let sets = c.loop-name.sets.items in let set = c.in_ok-set.set in let e = c.in_ok-push_set.ensures.list in (
      had.0 ++ tree ∷ [],
      one_on had.0 names name rule c.loop-name-test.true (sym c.index-names-name.is) ∙ had.1,
      length-append had.0 (tree ∷ []) ∙ ap (λ (k : ℕ). k + 1) had.2,
      subst (AreInputOpens n d cell (had.0 ++ tree ∷ [])) (sym e)
          (inputs_more (λ key. IsFramedOpen n d (key ∷ []) cell) had.0 rule.form sets set had.3 (c.in_ok-set.ensures (last_set sets c.push_set.new.sets.items set e c.in_ok-push_set.ensures.canonical))),
      c.in_ok-push_set.ensures.canonical,
    )
