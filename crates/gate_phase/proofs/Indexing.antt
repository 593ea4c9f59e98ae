-- Indexes of what cells hold themselves.
use Rattle.std.proofs.Common.{◌≡◌, ◌⊎◌, inl, inr, ℕ, zero, suc, ◌<◌, List, [], ◌∷◌, ◌++◌, Option, Some, None, length, get_or, refl, sym, ◌∙◌, ap, subst, arith}
use Rattle.std.proofs.lemmas.Bool.{and_from, and_parts}
use Rattle.std.proofs.Math.Decide.{ℕ_discrete}
use Rattle.std.proofs.lemmas.List.{get_or-set_other, get_or-set_same, length-map, map-set}
use Rattle.std.specs.Global.{Vec}
use Rattle.std.specs.Prelude.{set}
use Rattle.geo_base.specs.Rects.{has}
use Rattle.geo_base.specs.declared.shapes.Rect.{Rect}
use Rattle.rect_sets.specs.Rects.{IsListed, covers}
use Rattle.rect_sets.proofs.Unique.{listed_get}
use Rattle.tile_index.specs.Windows.{ArePositions}
use Rattle.cell_context.proofs.Collecting.{no_rect}
use Rattle.cell_context.proofs.Near.{chosen, chosen_same, own_inside}
use Rattle.deep_tables.specs.Layers.{layer_of}
use Rattle.deep_tables.specs.declared.layers.CellLayers.{CellLayers}
use Rattle.gate_phase.specs.Indexes.{AreAllIndexes, AreIndexes, AreMetOf, index_lists}

chosen_listed : (rects : List Rect) (near : List ℕ) (r : Rect) → ((k : ℕ) → k < length near → get_or near k 0 < length rects) → IsListed r (chosen rects near) → IsListed r rects
chosen_listed rects [] r inside l = absurd l
chosen_listed rects (i ∷ near) r inside (inl e) = subst (λ (x : Rect). IsListed x rects) (sym e) (listed_get rects i no_rect (inside 0 (omega arith)))
chosen_listed rects (i ∷ near) r inside (inr l) = chosen_listed rects near r (λ k lt. inside (suc k) (omega (arith, lt))) l

-- what an index finds meets the window
pub chosen_met : (rects : List Rect) (w : Rect) (near : List ℕ) → ArePositions rects w near → AreMetOf rects w (chosen rects near)
chosen_met rects w near are = record {
  listed = λ r l. chosen_listed rects near r (λ k lt. own_inside rects w near k are lt) l;
  complete = λ q e g. (and_parts (covers (chosen rects near) q) (has w q) (chosen_same rects w near q are ∙ and_from (covers rects q) (has w q) e g)).0;
}

last_of : (old : List (Option (List Rect))) (o : Option (List Rect)) (i : ℕ) (rects : List Rect) → get_or (old ++ o ∷ []) i None ≡ Some rects → (get_or old i None ≡ Some rects) ⊎ ((i ≡ length old) × (o ≡ Some rects))
last_of [] o zero rects e = inr (refl, e)
last_of [] o (suc i) rects e = absurd (let f : None ≡ Some rects = e in let z : ⊥ = cc in z)
last_of (x ∷ old) o zero rects e = inl e
last_of (x ∷ old) o (suc i) rects e = elim (last_of old o i rects e) [ inl f ↦ inl f | inr f ↦ inr (ap suc f.0, f.1) ]

-- one name on
pub indexes_more : (layers : List (Option CellLayers)) (cell n : ℕ) (old : List (Option (List Rect))) (o : Option (List Rect)) → length old ≡ n → AreIndexes layers cell old → ((rects : List Rect) → o ≡ Some rects → layer_of layers cell n ≡ Some rects)
    → AreIndexes layers cell (old ++ o ∷ [])
indexes_more layers cell n old o long before here i rects e = elim (last_of old o i rects e) [
  | inl f ↦ before i rects f
  | inr f ↦ subst (λ k. layer_of layers cell k ≡ Some rects) (sym (f.0 ∙ long)) (here rects f.1)
]

pub no_indexes : (layers : List (Option CellLayers)) (all : List (List (Option (List Rect)))) → ((k : ℕ) → get_or all k [] ≡ []) → AreAllIndexes layers all
no_indexes layers all none cell name rects e = absurd (let f : None ≡ Some rects = sym (ap (λ (l : List (Option (List Rect))). get_or l name None) (none cell)) ∙ e in let z : ⊥ = cc in z)

-- one cell on
pub cell_set : (layers : List (Option CellLayers)) (all : List (Vec (Option (List Rect)))) (cell : ℕ) (v : Vec (Option (List Rect))) → cell < length all → AreAllIndexes layers (index_lists all) → AreIndexes layers cell v.items
    → AreAllIndexes layers (index_lists (set all cell v))
cell_set layers all cell v lt before here =
    let lists = index_lists all in
    let same : index_lists (set all cell v) ≡ set lists cell v.items = map-set (λ (u : Vec (Option (List Rect))). u.items) all cell v in
    let long : length lists ≡ length all = length-map all (λ (u : Vec (Option (List Rect))). u.items) in
    subst (AreAllIndexes layers) (sym same) (λ k. elim (ℕ_discrete k cell) [
      | yes e ↦
          subst (λ j. AreIndexes layers j (get_or (set lists cell v.items) j [])) (sym e)
          (subst (AreIndexes layers cell) (sym (get_or-set_same lists cell v.items [] (omega (arith, lt, long)))) here)
      | no m ↦ subst (AreIndexes layers k) (sym (get_or-set_other lists cell k v.items [] m)) (before k)
    ])
