-- Chosen sets of cells, selection by selection.
use Rattle.std.proofs.Common.{◌≡◌, ◌↔◌, ℕ, zero, suc, ◌+◌, ◌<◌, true, List, [], ◌∷◌, ◌++◌, Option, Some, None, map, refl, sym, ap, ◌∙◌, subst, arith, length-append, get_or, slice_get}
use Rattle.std.specs.Prelude.{IsSomeAnd}
use Rattle.std.proofs.Math.Decide.{ℕ_discrete}
use Rattle.std.proofs.lemmas.List.{get_or_append_left, get_or_push}
use Rattle.std.proofs.lemmas.Option.{same_Some}
use Rattle.flat_layout.specs.Layers.{Formula}
use Rattle.flat_layout.specs.Layout.{Design, IsReached}
use Rattle.geo_base.specs.declared.shapes.Rect.{Rect}
use Rattle.geo_base.specs.declared.shapes.Square.{Square}
use Rattle.rect_sets.specs.Rects.{covers}
use Rattle.rule_stages.specs.Selections.{select_of}
use Rattle.rule_text.specs.declared.rules.SelectRule.{SelectRule}
use Rattle.select_laws.specs.Layered.{IsOwnSelected}
use Rattle.select_laws.specs.Selects.{Select, sight}
use Rattle.select_laws.specs.Whole.{ArePartedRegions}
use Rattle.select_phase.specs.Found.{AreFound, IsCellSelection}
use Rattle.select_phase.specs.declared.cell.CellSelection.{CellSelection}
use Rattle.depth_designs.specs.Chosen.{AreChosen, AreChosenTo}
use Rattle.select_flow.specs.Sets.{chosen_of, chosen_sets}

get_chosen : (found : List (Option CellSelection)) (cell : ℕ) → get_or (map chosen_of found) cell [] ≡ chosen_of (get_or found cell None)
get_chosen [] cell = refl
get_chosen (v ∷ found) zero = refl
get_chosen (v ∷ found) (suc cell) = get_chosen found cell

by_entry : (d : Design) (x : Select) (cell : ℕ) (q : Square) (o : Option CellSelection) → IsSomeAnd o (IsCellSelection d x cell) → (covers (chosen_of o) q ≡ true) ↔ IsOwnSelected d x cell q
by_entry d x cell q None h = absurd h
by_entry d x cell q (Some v) h = h.chosen q

pub chosen_known : (d : Design) (x : Select) (found : List (Option CellSelection)) → AreFound d x found → ((cell : ℕ) → (IsReached d cell → ⊥) → get_or found cell None ≡ None) → ArePartedRegions d x.joint (sight x)
    → AreChosen d x (chosen_sets found)
chosen_known d x found are none parted = record {
  each = λ cell reached q. subst (λ (set : List Rect). (covers set q ≡ true) ↔ IsOwnSelected d x cell q) (sym (get_chosen found cell)) (by_entry d x cell q (get_or found cell None) (are cell reached));
  none = λ cell not. get_chosen found cell ∙ ap chosen_of (none cell not);
  parted = parted;
}

pub none_chosen : (d : Design) (trees : List Formula) (selected : List SelectRule) → AreChosenTo d trees selected 0 []
none_chosen d trees selected = record { count = refl; each = λ k s lt at. absurd (let w : ⊥ = omega (arith, lt) in w) }

pub chosen_more : (d : Design) (trees : List Formula) (selected : List SelectRule) (n : ℕ) (s : SelectRule) (set : List (List Rect)) (lists : List (List (List Rect))) → slice_get selected n ≡ Some s → AreChosen d (select_of trees s) set
    → AreChosenTo d trees selected n lists → AreChosenTo d trees selected (n + 1) (lists ++ set ∷ [])
chosen_more d trees selected n s set lists at is h = record {
  count = length-append lists (set ∷ []) ∙ ap (λ k. k + 1) h.count;
  each = λ k t lt there. elim (ℕ_discrete k n) [
    | yes e ↦
        let same : s ≡ t = same_Some s t (sym at ∙ ap (slice_get selected) (sym e) ∙ there) in
        subst (λ (l : List (List Rect)). AreChosen d (select_of trees t) l) (sym (get_or_push lists set [] k (h.count ∙ sym e))) (subst (λ (u : SelectRule). AreChosen d (select_of trees u) set) same is)
    | no not ↦
        let less : k < n = omega (arith, lt, not) in
        let count = h.count in
        subst (λ (l : List (List Rect)). AreChosen d (select_of trees t) l) (sym (get_or_append_left lists (set ∷ []) [] k (omega (arith, less, count)))) (h.each k t less there)
  ];
}

-- over other trees that mean the same selections
pub other_trees : (d : Design) (one other : List Formula) (selected : List SelectRule) (n : ℕ) (lists : List (List (List Rect))) → ((k : ℕ) (s : SelectRule) → slice_get selected k ≡ Some s → select_of one s ≡ select_of other s)
    → AreChosenTo d one selected n lists → AreChosenTo d other selected n lists
other_trees d one other selected n lists same h = record {
  count = h.count;
  each = λ k s lt at. subst (λ (x : Select). AreChosen d x (get_or lists k [])) (same k s at) (h.each k s lt at);
}
