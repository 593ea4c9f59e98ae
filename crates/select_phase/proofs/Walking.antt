-- Cells in the design's order: what each places comes before it.
use Rattle.std.proofs.Common.{◌≡◌, inl, inr, ℕ, zero, suc, ◌+◌, ◌<◌, ◌≤◌, List, [], Option, Some, None, IsSomeAnd, length, get_or, replicate, slice_index, refl, sym, ◌∙◌, ap, subst, arith}
use Rattle.std.specs.Prelude.{set}
use Rattle.std.proofs.Math.Decide.{ℕ_discrete}
use Rattle.std.proofs.lemmas.Bool.{cases_order}
use Rattle.std.proofs.lemmas.List.{get_or-set_other, get_or-set_same}
use Rattle.flat_layout.specs.Layout.{Design, IsPlaced, IsReached, Place}
use Rattle.flat_laws.proofs.Cover.{reached_below}
use Rattle.cell_graph.specs.Linked.{IsSound, Linked, height_at, plain}
use Rattle.cell_graph.proofs.Bridge.{heights}
use Rattle.deep_tables.specs.Entries.{entry}
use Rattle.deep_tables.proofs.Reading.{some_and}
use Rattle.rule_text.specs.Rules.{Rules}
use Rattle.rule_text.specs.Sound as rules
use Rattle.rule_layers.specs.Formulas.{formulas}
use Rattle.gate_phase.specs.Indexes.{AreLayersOf, LayersOf}
use Rattle.gate_phase.proofs.Locals.{locals_of}
use Rattle.gate_phase.proofs.Marking.{count_behind}
use Rattle.select_laws.specs.Rest.{ArePartedSquares}
use Rattle.select_laws.specs.Selects.{Select, sight}
use Rattle.select_laws.specs.Whole.{ArePartedRegions}
use Rattle.select_laws.proofs.Choice.{reads_region}
use Rattle.select_laws.proofs.Rest.{parted_rest}
use Rattle.select_phase.specs.Found.{AreFound, AreFoundBelow, IsCellSelection}
use Rattle.rule_stages.specs.Selections.{IsKnown, select_of}
use Rattle.select_phase.specs.declared.cell.CellSelection.{CellSelection}
use Rattle.rule_text.specs.declared.rules.SelectRule.{SelectRule}

abbrev nones : ℕ → List (Option CellSelection)
nones n = replicate n None

none_at : (n k : ℕ) → get_or (nones n) k None ≡ None
none_at zero k = refl
none_at (suc n) zero = refl
none_at (suc n) (suc k) = none_at n k

-- cells that the top doesn't reach have none
abbrev pub AreNoneElse : Linked → List (Option CellSelection) → Type 0
AreNoneElse d found = (cell : ℕ) → (IsReached (plain d) cell → ⊥) → get_or found cell None ≡ None

pub none_first : (d : Linked) (n : ℕ) (found : List (Option CellSelection)) → found ≡ nones n → AreNoneElse d found
none_first d n found is cell off = ap (λ (l : List (Option CellSelection)). get_or l cell None) is ∙ none_at n cell

pub none_still : (d : Linked) → IsSound d → (n : ℕ) (found : List (Option CellSelection)) (v : CellSelection) → n < length d.order → AreNoneElse d found → AreNoneElse d (set found (slice_index d.order n) (Some v))
none_still d sound n found v lt h cell off =
    let other : cell ≡ slice_index d.order n → ⊥ = λ same. off (subst (λ (c : ℕ). IsReached (plain d) c) (sym same) (sound.order.reached n lt)) in
    get_or-set_other found (slice_index d.order n) cell (Some v) None other ∙ h cell off

-- the first n cells have what they find
abbrev pub AreFoundTo : Linked → Select → ℕ → List (Option CellSelection) → Type 0
AreFoundTo d x n found = (k : ℕ) → k < n → IsSomeAnd (entry found (slice_index d.order k)) (IsCellSelection (plain d) x (slice_index d.order k))

module _ (d : Linked) (x : Select) (sound : IsSound d) where
  -- a placed cell stands before the cell that places it
  before : (n k : ℕ) (p : Place) → n < length d.order → IsPlaced (plain d) (slice_index d.order n) k p → (i : ℕ) × (i < n) × (slice_index d.order i ≡ p.cell)
  before n k p lt placed =
      let at = sound.order.all p.cell (reached_below (plain d) (slice_index d.order n) k p (sound.order.reached n lt) placed) in
      let low = heights d sound (slice_index d.order n) k p placed in
      let same : height_at d (slice_index d.order at.0) ≡ height_at d p.cell = ap (height_at d) at.2 in
      elim (cases_order at.0 n) [
        | inl e ↦ (let here : height_at d (slice_index d.order at.0) ≡ height_at d (slice_index d.order n) = ap (λ i. height_at d (slice_index d.order i)) e in absurd (let z : ⊥ = omega arith in z))
        | inr r ↦ elim r [
          | inl less ↦ (at.0, less, at.2)
          | inr more ↦ (let up = sound.order.rising n at.0 more at.1 in absurd (let z : ⊥ = omega arith in z))
        ]
      ]

  pub below_of : (n : ℕ) (found : List (Option CellSelection)) → n < length d.order → AreFoundTo d x n found → AreFoundBelow (plain d) x (slice_index d.order n) found
  below_of n found lt h k p placed =
      let b = before n k p lt placed in
      let v = some_and (IsCellSelection (plain d) x (slice_index d.order b.0)) (entry found (slice_index d.order b.0)) (h b.0 b.1) in
      (v.0, ap (λ (c : ℕ). get_or found c None) (sym b.2) ∙ v.1, subst (λ (c : ℕ). IsCellSelection (plain d) x c v.0) b.2 v.2)

  pub found_none : (found : List (Option CellSelection)) → AreFoundTo d x 0 found
  found_none found k lt = absurd (let z : ⊥ = omega arith in z)

  pub found_more : (n : ℕ) (found : List (Option CellSelection)) (v : CellSelection) → n < length d.order → length found ≡ length d.cells → AreFoundTo d x n found → IsCellSelection (plain d) x (slice_index d.order n) v
      → AreFoundTo d x (n + 1) (set found (slice_index d.order n) (Some v))
  found_more n found v lt long h here k less =
      let inside = sound.order.inside n lt in
      elim (ℕ_discrete k n) [
        | yes e ↦
            subst (λ (i : ℕ). IsSomeAnd (entry (set found (slice_index d.order n) (Some v)) (slice_index d.order i)) (IsCellSelection (plain d) x (slice_index d.order i))) (sym e)
            (subst (λ (o : Option CellSelection). IsSomeAnd o (IsCellSelection (plain d) x (slice_index d.order n))) (sym (get_or-set_same found (slice_index d.order n) (Some v) None (omega (arith, inside, long)))) here)
        | no not ↦
            (let other : slice_index d.order k ≡ slice_index d.order n → ⊥ = λ same. not (sound.order.once k n (omega (arith, lt, less)) lt same) in
            subst (λ (o : Option CellSelection). IsSomeAnd o (IsCellSelection (plain d) x (slice_index d.order k))) (sym (get_or-set_other found (slice_index d.order n) (slice_index d.order k) (Some v) None other)) (h k (omega (arith, not))))
      ]

  pub found_all : (n : ℕ) (found : List (Option CellSelection)) → length d.order ≤ n → AreFoundTo d x n found → AreFound (plain d) x found
  found_all n found end h cell reached =
      let at = sound.order.all cell reached in
      let lt = at.1 in
      subst (λ (c : ℕ). IsSomeAnd (entry found c) (IsCellSelection (plain d) x c)) at.2 (h at.0 (omega arith))

  -- so of each whole region it is known whether it is its cell's own
  pub regions_parted : ((cell : ℕ) → IsReached (plain d) cell → ArePartedSquares (plain d) (sight x) cell) → (found : List (Option CellSelection)) → AreFound (plain d) x found → ArePartedRegions (plain d) x.joint (sight x)
  regions_parted squares found h = parted_rest (plain d) x.joint (sight x) (reads_region x) squares
      (λ cell reached. (some_and (IsCellSelection (plain d) x cell) (entry found cell) (h cell reached)).2.told)

-- of each kept square of a selection's regions' layer it is known whether its cell holds it itself
pub squares_of : (d : Design) (r : Rules) (layers : LayersOf) (s : SelectRule) → AreLayersOf d r layers → rules.IsSound r → IsKnown (formulas r.names) s → (cell : ℕ) → IsReached d cell → ArePartedSquares d (sight (select_of (formulas r.names) s)) cell
squares_of d r layers s right ruled known cell reached q kept =
    let long = count_behind [] r.names in
    let region = known.region in
    (locals_of d r layers s.region right (omega (arith, long, region)) ruled cell reached).2.parted q kept
