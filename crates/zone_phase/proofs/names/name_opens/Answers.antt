use Rattle.std.proofs.Common.{◌≡◌, ◌∙◌, ◌+◌, ◌<◌, ◌++◌, ◌∷◌, [], ℕ, Some, List, ap, arith, sym, subst, drop, get_or, length, length-append, slice_get}
use Rattle.geo_base.specs.declared.shapes.Rect.{Rect}
use Rattle.flat_layout.specs.Layers.{Formula}
use Rattle.rule_text.specs.declared.rules.LayerRule.{LayerRule}
use Rattle.rule_layers.specs.Formulas.{formula_by, formulas, formulas_behind}
use Rattle.cell_graph.proofs.Finishes.{one_yielded}
use Rattle.deep_tables.specs.Frames.{IsFramedOpen}
use Rattle.zone_phase.specs.Names.{AreInputsKept, AreNameOpens, IsFormKept, IsFormOpen}
use Rattle.zone_phase.proofs.Naming.{all_given, behind_stays, given_at, input_here, kept_more, names_more, one_on, some_given}
use Rattle.zone_phase.proofs.names.name_opens.Goals as goal

pub loop-input-preserved : goal.loop-input-preserved
loop-input-preserved c =
    let had = c.loop-input.invariant in let names = c.args.names.now in let given = c.args.inputs.items in
    let sets = c.loop-input.sets.items in let set = c.in_ok-set.set in let rule = get_or names c.len.result c.index-names-len.result in let input = c.in-Some.input in
    let steps = (c.in-Some.ensures {u = tt}).steps.0 in let e = c.in_ok-push_set.ensures.list in
    let size : c.len.result ≡ length sets = (let e = c.len.ensures in let long = c.loop-input.sets.ok.0 in omega (arith, e, long)) in
    let ruled : get_or names (length sets) rule ≡ rule = subst (λ (k : ℕ). get_or names k rule ≡ rule) size (subst (λ (x : LayerRule). get_or names c.len.result x ≡ x) c.index-names-len.is (sym c.index-names-len.is)) in
    let tree = formula_by had.0 rule.form in
    let rest = c.loop-input.input-iterator.rest.items in
    let left = c.next.new.self.rest.items in
    let on : formulas_behind (had.0 ++ tree ∷ []) (drop (length sets + 1) names) ≡ formulas names = one_on had.0 names (length sets) rule (some_given names given c.loop-input.yielded rest left input (length sets) c.requires had.3 had.4 steps) ruled ∙ had.1 in
    let longer : length (sets ++ set ∷ []) ≡ length sets + 1 = length-append sets (set ∷ []) in
    let here : get_or given (length c.loop-input.yielded) [] ≡ input = given_at given c.loop-input.yielded rest left input had.4 steps in
    let at : get_or given (length sets) [] ≡ input = ap (λ (k : ℕ). get_or given k []) (sym had.3) ∙ here in (
      had.0 ++ tree ∷ [],
      ap (λ (l : List (List Rect)). formulas_behind (had.0 ++ tree ∷ []) (drop (length l) names)) e ∙ ap (λ (k : ℕ). formulas_behind (had.0 ++ tree ∷ []) (drop k names)) longer ∙ on,
      length-append had.0 (tree ∷ []) ∙ ap (λ (k : ℕ). k + 1) had.2 ∙ sym (ap length e ∙ longer),
      length-append c.loop-input.yielded (input ∷ []) ∙ ap (λ (k : ℕ). k + 1) had.3 ∙ sym (ap length e ∙ longer),
      one_yielded given c.loop-input.yielded left rest input had.4 steps,
      (λ n d cell all. subst (AreNameOpens n d cell (had.0 ++ tree ∷ [])) (sym e)
          (names_more n d cell had.0 tree sets set (sym had.2) (had.5 n d cell all)
          (c.in_ok-set.ensures.opens n d cell had.0 (subst (AreNameOpens n d cell had.0) (sym c.deref.ensures.value) (had.5 n d cell all))
          (subst (IsFormOpen n d cell rule.form) at
          (input_here (λ key. IsFramedOpen n d (key ∷ []) cell) had.0 (formulas names) (length sets) rule.form given had.2
          (λ k x e. subst (λ (l : List Formula). slice_get l k ≡ Some x) on (behind_stays (had.0 ++ tree ∷ []) (drop (length sets + 1) names) k x e)) all))))),
      subst (AreInputsKept (had.0 ++ tree ∷ []) given) (sym e)
          (kept_more had.0 rule.form given sets set (sym had.2) had.6 (subst (λ (v : List Rect). IsFormKept rule.form v set) (sym (ap (λ (k : ℕ). get_or given k []) had.2 ∙ at)) c.in_ok-set.ensures.kept)),
      c.in_ok-push_set.ensures.canonical,
    )

pub returns-clause-opens : goal.returns-clause-opens
returns-clause-opens c = λ n d cell all.
    let had = c.loop-input.invariant in let names = c.args.names.now in let sets = c.loop-input.sets.items in
    subst (λ (trees : List Formula). AreNameOpens n d cell trees sets)
    (all_given names had.0 c.args.inputs.items c.loop-input.yielded c.loop-input.input-iterator.rest.items (length sets) c.requires had.3 had.4 (let long = c.loop-input.input-iterator.rest.ok.0 in let none = c.in-None.ensures.steps.0 in omega (arith, long, none)) had.1) (had.5 n d cell all)

pub returns-clause-kept : goal.returns-clause-kept
returns-clause-kept c =
    let had = c.loop-input.invariant in let names = c.args.names.now in let sets = c.loop-input.sets.items in
    subst (λ (trees : List Formula). AreInputsKept trees c.args.inputs.items sets)
    (all_given names had.0 c.args.inputs.items c.loop-input.yielded c.loop-input.input-iterator.rest.items (length sets) c.requires had.3 had.4 (let long = c.loop-input.input-iterator.rest.ok.0 in let none = c.in-None.ensures.steps.0 in omega (arith, long, none)) had.1) had.6
