-- Marks of cells that hold nothing of a conductor, one by one.
use Rattle.std.proofs.Common.{◌≡◌, ◌<◌, ◌+◌, ◌&&◌, ◌==◌, ℕ, zero, suc, Bool, true, false, List, [], ◌∷◌, ◌++◌, Some, get_or, length, replicate, set, slice_get, refl, sym, ◌∙◌, ap, subst, arith}
use Rattle.base_laws.proofs.Lists.{map_count, map_last, none_set}
use Rattle.base_laws.proofs.Tests.{not_both}
use Rattle.std.proofs.Math.Decide.{dec_lt, ℕ_discrete}
use Rattle.std.proofs.lemmas.Bool.{and_parts, eqb-true}
use Rattle.std.proofs.lemmas.List.{get_or-set_other, get_or-set_same, get_or_past, length-replicate, length-set}
use Rattle.std.proofs.lemmas.List.Folds.{list_all_at}
use Rattle.std.proofs.lemmas.Option.{get_or_from_slice_get, slice_get_within}
use Rattle.std.specs.Global.{Vec}
use Rattle.std.specs.List.{list_all}
use Rattle.cell_graph.proofs.Bridge.{step_of}
use Rattle.cell_graph.specs.Linked.{Linked, cell_at, places_at, plain}
use Rattle.cell_graph.specs.declared.cells.Place.{Place}
use Rattle.flat_layout.specs.Layout as flat
use Rattle.flat_layout.specs.Layout.{IsPlaced}
use Rattle.flat_layout.specs.Nets.{Child, Global, HoldsAt, Item, Own, Tables}
use Rattle.flat_layout.specs.Regions.{At, Ground}
use Rattle.geo_base.specs.Motions.{moved_square}
use Rattle.geo_base.specs.declared.shapes.Rect.{Rect}
use Rattle.geo_base.specs.declared.shapes.Square.{Square}
use Rattle.net_phase.proofs.Listing.{get_push, long_push}
use Rattle.net_phase.specs.Bare.{AreAllBare, AreBare, mark_lists}
use Rattle.net_phase.specs.Own.{own_at}
use Rattle.net_walk.specs.Walk.{HasNone}

none_in : (r : List Rect) → (length r == 0) ≡ true → r ≡ []
none_in [] h = refl
none_in (x ∷ r) h = let e = eqb-true (length (x ∷ r)) 0 h in absurd (let z : ⊥ = omega (arith, e) in z)

passes : (p : Place → Bool) (xs : List Place) (i : ℕ) (x : Place) → list_all p xs ≡ true → slice_get xs i ≡ Some x → p x ≡ true
passes p xs i x h at = by (p x) refl
  where
    by : (b : Bool) → p x ≡ b → p x ≡ true
    by true e = e
    by false e = absurd (not_both (list_all p xs) h (list_all_at p xs i x (slice_get_within xs i x at) (ap p (get_or_from_slice_get xs i x x at) ∙ e)))

-- a mark for each cell, set where nothing of the conductor is held
pub record AreBareMarks (d : Linked) (all : List (List (List Rect))) (c : ℕ) (marks : List Bool) : Type 0 where
  pub count : length marks ≡ length d.cells
  pub bare : AreBare d all c marks

pub no_marks : (d : Linked) (all : List (List (List Rect))) (c n : ℕ) (marks : List Bool) → marks ≡ replicate n false → n ≡ length d.cells → AreBareMarks d all c marks
no_marks d all c n marks e same = record {
  count = ap (λ (l : List Bool). length l) e ∙ length-replicate n false ∙ same;
  bare = record { own = λ cell marked. absurd (none cell marked); placed = λ cell k p marked placed. absurd (none cell marked) };
}
  where
    none : (cell : ℕ) → get_or marks cell false ≡ true → ⊥
    none cell marked = not_both (get_or marks cell false) marked (ap (λ (l : List Bool). get_or l cell false) e ∙ none_set n cell)

pub one_mark : (d : Linked) (all : List (List (List Rect))) (c cell : ℕ) (places : List Place) (marks : List Bool) → cell < length d.cells → places ≡ places_at (cell_at d cell)
    → ((length (own_at all cell c) == 0) && list_all (λ p. get_or marks p.cell false) places) ≡ true → AreBareMarks d all c marks → AreBareMarks d all c (set marks cell true)
one_mark d all c cell places marks lt are test h = record {
  count = length-set marks cell true ∙ h.count;
  bare = record {
    own = λ k marked. elim (ℕ_discrete k cell) [
      | yes e ↦ ap (λ n. own_at all n c) e ∙ none_in (own_at all cell c) parts.0
      | no m ↦ h.bare.own k (sym (get_or-set_other marks cell k true false m) ∙ marked)
    ];
    placed = λ k n p marked placed. elim (ℕ_discrete k cell) [
      | yes e ↦ kept p.cell (below n p (subst (λ j. IsPlaced (plain d) j n p) e placed))
      | no m ↦ kept p.cell (h.bare.placed k n p (sym (get_or-set_other marks cell k true false m) ∙ marked) placed)
    ];
  };
}
  where
    parts : ((length (own_at all cell c) == 0) ≡ true) × (list_all (λ p. get_or marks p.cell false) places ≡ true)
    parts = and_parts (length (own_at all cell c) == 0) (list_all (λ p. get_or marks p.cell false) places) test

    kept : (j : ℕ) → get_or marks j false ≡ true → get_or (set marks cell true) j false ≡ true
    kept j marked = elim (ℕ_discrete j cell) [
      | yes e ↦ let count = h.count in ap (λ n. get_or (set marks cell true) n false) e ∙ get_or-set_same marks cell true false (omega (arith, lt, count))
      | no m ↦ get_or-set_other marks cell j true false m ∙ marked
    ]

    below : (n : ℕ) (p : flat.Place) → IsPlaced (plain d) cell n p → get_or marks p.cell false ≡ true
    below n p placed =
        let s = step_of d cell n p placed in
        ap (λ (x : flat.Place). get_or marks x.cell false) s.is
        ∙ passes (λ x. get_or marks x.cell false) places s.index s.from parts.1 (subst (λ (l : List Place). slice_get l s.index ≡ Some s.from) (sym are) s.step.there)

-- where no mark is set, all are right
pub unmarked : (d : Linked) (all : List (List (List Rect))) (c : ℕ) → AreBare d all c []
unmarked d all c = record { own = λ cell marked. absurd (none cell marked); placed = λ cell k p marked placed. absurd (none cell marked) }
  where
    none : (cell : ℕ) → get_or [] cell false ≡ true → ⊥
    none cell marked = let e : false ≡ true = marked in cc

pub none_bare : (d : Linked) (all : List (List (List Rect))) → AreAllBare d all []
none_bare d all c = unmarked d all c

pub more_bare : (d : Linked) (all : List (List (List Rect))) (n : ℕ) (old : List (Vec Bool)) (v : Vec Bool) → length old ≡ n → AreAllBare d all (mark_lists old) → AreBare d all n v.items → AreAllBare d all (mark_lists (old ++ v ∷ []))
more_bare d all n old v long h here c =
    subst (λ (l : List (List Bool)). AreBare d all c (get_or l c [])) (sym (map_last (λ (u : Vec Bool). u.items) old v))
    (elim (dec_lt c (length lists + 1)) [
      | yes lt ↦ get_push lists v.items [] c (λ k l. AreBare d all k l) (λ k less. h k) (subst (λ k. AreBare d all k v.items) (sym count) here) lt
      | no m ↦ let more = long_push lists v.items in subst (λ (l : List Bool). AreBare d all c l) (sym (get_or_past (lists ++ v.items ∷ []) c [] (omega (arith, more)))) (unmarked d all c)
    ])
  where
    lists : List (List Bool)
    lists = mark_lists old

    count : length lists ≡ n
    count = map_count (λ (u : Vec Bool). u.items) old ∙ long

module _ (d : Linked) (t : Tables) (all : List (List (List Rect))) (same : (cell c : ℕ) → t.own cell c ≡ own_at all cell c) (c : ℕ) (marks : List Bool) (are : AreBare d all c marks) where
  holds_none : (depth cell : ℕ) (item : Item) (q : Square) → get_or marks cell false ≡ true → HoldsAt (plain d) t depth cell item (At c q) → ⊥
  holds_none zero cell (Own e r) q marked (s, rect, at, inside, is) =
      let key : e ≡ c = (let f : At e s ≡ At c q = is in cc) in
      let here : t.own cell e ≡ [] = ap (t.own cell) key ∙ same cell c ∙ are.own cell marked in
      let f : slice_get [] r ≡ Some rect = subst (λ (l : List Rect). slice_get l r ≡ Some rect) here at in
      let z : ⊥ = cc in
      z
  holds_none zero cell (Child k m) q marked h = h
  holds_none zero cell (Global g) q marked h = let f : Ground g ≡ At c q = h in let z : ⊥ = cc in z
  holds_none (suc n) cell (Own e r) q marked h = h
  holds_none (suc n) cell (Child k m) q marked (p, placed, i, item, is, At e s, holds, image) =
      let key : e ≡ c = (let f : At e (moved_square p.motion s) ≡ At c q = image in cc) in
      holds_none n p.cell item s (are.placed cell k p marked placed) (subst (λ j. HoldsAt (plain d) t n p.cell item (At j s)) key holds)
  holds_none (suc n) cell (Child k m) q marked (p, placed, i, item, is, Ground g, holds, image) = let f : Ground g ≡ At c q = image in let z : ⊥ = cc in z
  holds_none (suc n) cell (Global g) q marked h = h

  pub has_none : (cell : ℕ) → get_or marks cell false ≡ true → HasNone (plain d) t cell c
  has_none cell marked x q h = holds_none h.holds.depth cell h.item q marked h.holds.holds
