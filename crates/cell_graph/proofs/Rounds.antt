-- Bounds along an order from below.
use Rattle.std.proofs.Common.{◌≡◌, ◌⊎◌, inl, inr, ℕ, zero, suc, ◌+◌, ◌<◌, ◌≤◌, List, [], ◌∷◌, ◌++◌, Option, Some, None, length, set, slice_get, get_or, refl, sym, ◌∙◌, ap, subst, arith}
use Rattle.std.proofs.Math.Decide.{ℕ_discrete}
use Rattle.std.proofs.Math.ListN.{replicate}
use Rattle.std.proofs.lemmas.List.{get_or-set_same, get_or-set_other, length-set, length-replicate}
use Rattle.std.proofs.lemmas.Option.{slice_get_within, slice_get-get_or}
use Rattle.cell_graph.specs.declared.cells.Place.{Place}
use Rattle.cell_graph.specs.declared.bounds.Bounds.{Bounds}
use Rattle.cell_graph.specs.declared.drafts.CellDraft.{CellDraft}
use Rattle.cell_graph.specs.Chains.{IsHeightOf}
use Rattle.cell_graph.specs.Parts.{Part, AreInside}
use Rattle.cell_graph.specs.Drafts.{IsNamed, Refers, IsFar, IsFirstFar, HasNoDeep, AreSound, AreParts, AreAllResolved}
use Rattle.cell_graph.specs.Sides.{AreNearIfAny}
use Rattle.cell_graph.specs.Extents.{found_at, AreArrays, HaveArrays, IsBoundsOf, AreBoundsTo, AreBounds}
use Rattle.cell_graph.specs.Ordering.{AreOrdered}
use Rattle.cell_graph.specs.Marking.{IsOn}
use Rattle.cell_graph.specs.Rising.{height_in, HaveHeights}
use Rattle.cell_graph.proofs.Raising.{longer}
use Rattle.cell_graph.proofs.Resolving.{at_too}
use Rattle.cell_graph.proofs.Hulls.{HaveChildren, not_far}

pub cases : (a b : ℕ) → (a < b) ⊎ (a ≡ b) ⊎ (b < a)
cases zero zero = inr (inl refl)
cases zero (suc b) = inl (omega arith)
cases (suc a) zero = inr (inr (omega arith))
cases (suc a) (suc b) = elim (cases a b) [ inl x ↦ inl (let f : suc a < suc b = omega arith in f) | inr y ↦ elim y [ inl e ↦ inr (inl (ap suc e)) | inr x ↦ inr (inr (let f : suc b < suc a = omega arith in f)) ] ]

pub refers_lower : (cells : List CellDraft) (hs : List ℕ) → HaveHeights cells hs → (i j : ℕ) → Refers cells i j → height_in hs j < height_in hs i
refers_lower cells hs h i j r =
    let in_i = slice_get_within cells i r.has.cell r.has.there in
    let in_j = slice_get_within cells j r.names.cell r.names.there in
    let long = (h.each i in_i).longest (suc (height_in hs j)) (longer (Refers cells) i j (height_in hs j) r (h.each j in_j).chain) in
    omega arith

pub low_height : (cells : List CellDraft) (hs : List ℕ) → HaveHeights cells hs → HasNoDeep cells → (i : ℕ) → i < length cells → height_in hs i < 65
low_height cells hs h deep i lt = elim (cases (height_in hs i) 65) [
  | inl a ↦ a
  | inr b ↦ absurd (deep i (height_in hs i, (elim b [ inl e ↦ (let f : 64 < height_in hs i = omega arith in f) | inr a ↦ (let f : 64 < height_in hs i = omega arith in f) ]), (h.each i lt).chain))
]

pub on_order : (cells : List CellDraft) (hs order : List ℕ) → HaveHeights cells hs → HasNoDeep cells → AreOrdered hs 65 0 order → (i : ℕ) → i < length cells → IsOn order i
on_order cells hs order h deep o i lt = o.all i (subst (λ n. i < n) (sym h.count) lt) (inl (low_height cells hs h deep i lt))

pub order_in : (cells : List CellDraft) (hs order : List ℕ) (n i : ℕ) → HaveHeights cells hs → AreOrdered hs 65 0 order → slice_get order n ≡ Some i → i < length cells
order_in cells hs order n i h o at = subst (λ m. i < m) h.count (o.inside i (n, at)).0

pub next_in : (cells : List CellDraft) (hs order : List ℕ) (n : ℕ) → HaveHeights cells hs → AreOrdered hs 65 0 order → n < length order → get_or order n 0 < length cells
next_in cells hs order n h o lt = order_in cells hs order n (get_or order n 0) h o (slice_get-get_or order n 0 lt)

-- a lower cell stands before
pub lower_before : (hs order : List ℕ) → AreOrdered hs 65 0 order → (n m i j : ℕ) → slice_get order n ≡ Some i → slice_get order m ≡ Some j → height_in hs j < height_in hs i → m < n
lower_before hs order o n m i j at_i at_j lt = elim (cases m n) [
  | inl a ↦ a
  | inr (inl e) ↦
      let same : i ≡ j = (let f : Some i ≡ Some j = sym at_i ∙ subst (λ k. slice_get order k ≡ Some j) e at_j in cc) in
      let f : height_in hs i ≡ height_in hs j = ap (height_in hs) same in absurd (let z : ⊥ = omega arith in z)
  | inr (inr a) ↦ elim (o.rising n m i j a at_i at_j) [ inl b ↦ absurd (let z : ⊥ = omega arith in z) | inr b ↦ let c = b.0 in absurd (let z : ⊥ = omega arith in z) ]
]

pub no_twice : (hs order : List ℕ) → AreOrdered hs 65 0 order → (k n i : ℕ) → k < n → slice_get order k ≡ Some i → slice_get order n ≡ Some i → ⊥
no_twice hs order o k n i lt at at' = elim (o.rising k n i i lt at at') [ inl b ↦ (let z : ⊥ = omega arith in z) | inr b ↦ let c = b.1 in (let z : ⊥ = omega arith in z) ]

pub part_refers : (cells : List CellDraft) (i : ℕ) (c : CellDraft) (places : List Place) (k : ℕ) (p : Place) → slice_get cells i ≡ Some c → AreAllResolved cells c.refs.items places → slice_get places k ≡ Some p → Refers cells i p.cell
part_refers cells i c places k p there all at =
    let r = at_too places c.refs.items k p all.count at in
    record { number = k; ref = r.0; has = record { cell = c; there = there; ref = r.1 }; names = (all.each k r.0 p r.1 at).names }

pub part_arrays : (cells : List CellDraft) (i : ℕ) (c : CellDraft) (places : List Place) → HaveArrays cells → slice_get cells i ≡ Some c → AreAllResolved cells c.refs.items places → AreArrays places
part_arrays cells i c places arrays there all k p at =
    let r = at_too places c.refs.items k p all.count at in
    let is = all.each k r.0 p r.1 at in
    let a = arrays i k r.0 (record { cell = c; there = there; ref = r.1 }) in
    record { rows = subst (λ n. 0 < n) (sym is.rows) a.rows; columns = subst (λ n. 0 < n) (sym is.columns) a.columns }

pub part_inside : (cells : List CellDraft) (i : ℕ) (c : CellDraft) (places : List Place) → slice_get cells i ≡ Some c → AreAllResolved cells c.refs.items places → AreInside places (length cells)
part_inside cells i c places there all k p at = let r = part_refers cells i c places k p there all at in slice_get_within cells p.cell r.names.cell r.names.there

pub children_found : (cells : List CellDraft) (hs order : List ℕ) (n i : ℕ) (c : CellDraft) (places : List Place) (found : List (Option Bounds)) → AreSound cells → HaveHeights cells hs → AreOrdered hs 65 0 order
    → slice_get order n ≡ Some i → slice_get cells i ≡ Some c → AreAllResolved cells c.refs.items places → AreBoundsTo cells order n found → HaveChildren cells places found
children_found cells hs order n i c places found sound h o at there all to k p at_p =
    let r = part_refers cells i c places k p there all at_p in
    let in_p = slice_get_within cells p.cell r.names.cell r.names.there in
    let on = on_order cells hs order h sound.no_deep o p.cell in_p in
    let before = lower_before hs order o n on.0 i p.cell at on.1 (refers_lower cells hs h i p.cell r) in
    (to.each on.0 p.cell before on.1).least

-- what a round along the order reads of its cell, and the bounds found so far
pub record IsRound (cells : List CellDraft) (order : List ℕ) (n : ℕ) (draft : CellDraft) (places : List Place) (found : List (Option Bounds)) : Type 0 where
  pub at : slice_get order n ≡ Some (get_or order n 0)
  pub there : slice_get cells (get_or order n 0) ≡ Some draft
  pub all : AreAllResolved cells draft.refs.items places
  pub children : HaveChildren cells places found
  pub inside : AreInside places (length found)
  pub arrays : AreArrays places

pub round_of : (cells : List CellDraft) (parts : List Part) (hs order : List ℕ) (n : ℕ) (draft : CellDraft) (part : Part) (places : List Place) (bounds found : List (Option Bounds))
    → AreSound cells → AreParts cells parts → HaveArrays cells → HaveHeights cells hs → AreOrdered hs 65 0 order → AreBoundsTo cells order n bounds → n < length order
    → draft ≡ get_or cells (get_or order n 0) draft → part ≡ get_or parts (get_or order n 0) part → places ≡ part.items → found ≡ bounds → IsRound cells order n draft places found
round_of cells parts hs order n draft part places bounds found sound are arrays h o to lt is_draft is_part is_places is_found =
    let i = get_or order n 0 in
    let at = slice_get-get_or order n 0 lt in
    let in_cells = next_in cells hs order n h o lt in
    let there : slice_get cells i ≡ Some draft = slice_get-get_or cells i draft in_cells ∙ ap Some (sym is_draft) in
    let part_there : slice_get parts i ≡ Some part = slice_get-get_or parts i part (subst (λ m. i < m) (sym are.count) in_cells) ∙ ap Some (sym is_part) in
    let all : AreAllResolved cells draft.refs.items places = subst (λ (ps : List Place). AreAllResolved cells draft.refs.items ps) (sym is_places) (are.each i draft part there part_there) in
    let now : AreBoundsTo cells order n found = subst (AreBoundsTo cells order n) (sym is_found) to in
    record {
      at = at;
      there = there;
      all = all;
      children = children_found cells hs order n i draft places found sound h o at there all now;
      inside = subst (AreInside places) (sym now.count) (part_inside cells i draft places there all);
      arrays = part_arrays cells i draft places arrays there all;
    }

pub none_found : (cells : List CellDraft) (order : List ℕ) (n : ℕ) (found : List (Option Bounds)) → n ≡ length cells → found ≡ replicate n None → AreBoundsTo cells order 0 found
none_found cells order n found e f = record {
  count = ap length f ∙ length-replicate n None ∙ e;
  near = λ i. subst (λ (fs : List (Option Bounds)). AreNearIfAny (found_at fs i)) (sym f) (nothing n i);
  each = λ k i lt at. absurd (let z : ⊥ = omega arith in z);
}
  where
    nothing : (n i : ℕ) → AreNearIfAny (found_at (replicate n None) i)
    nothing zero i = tt
    nothing (suc n) zero = tt
    nothing (suc n) (suc i) = nothing n i

pub next_found : (cells : List CellDraft) (hs order : List ℕ) (n i : ℕ) (found : List (Option Bounds)) (b : Option Bounds) → AreOrdered hs 65 0 order → i < length cells → slice_get order n ≡ Some i
    → IsBoundsOf cells i b → AreBoundsTo cells order n found → AreBoundsTo cells order (n + 1) (set found i b)
next_found cells hs order n i found b o lt at is to =
    let in_found : i < length found = subst (λ m. i < m) (sym to.count) lt in
    let here : found_at (set found i b) i ≡ b = get_or-set_same found i b None in_found in
    record {
      count = length-set found i b ∙ to.count;
      near = λ j. elim (ℕ_discrete j i) [
        | yes e ↦ subst AreNearIfAny (sym (ap (found_at (set found i b)) e ∙ here)) is.near
        | no e ↦ subst AreNearIfAny (sym (get_or-set_other found i j b None e)) (to.near j)
      ];
      each = λ k j below at_j. elim (ℕ_discrete k n) [
        | yes e ↦
            let same : i ≡ j = (let f : Some i ≡ Some j = sym at ∙ subst (λ k. slice_get order k ≡ Some j) e at_j in cc) in
            subst (λ j. IsBoundsOf cells j (found_at (set found i b) j)) same (subst (IsBoundsOf cells i) (sym here) is)
        | no e ↦
            let lt : k < n = omega arith in
            let other : j ≡ i → ⊥ = λ f. no_twice hs order o k n i lt (subst (λ j. slice_get order k ≡ Some j) f at_j) at in
            subst (IsBoundsOf cells j) (sym (get_or-set_other found i j b None other)) (to.each k j lt at_j)
      ];
    }

pub all_found : (cells : List CellDraft) (hs order : List ℕ) (n : ℕ) (found : List (Option Bounds)) → HaveHeights cells hs → HasNoDeep cells → AreOrdered hs 65 0 order → length order ≤ n
    → AreBoundsTo cells order n found → AreBounds cells found
all_found cells hs order n found h deep o le to = record {
  count = to.count;
  each = λ i lt.
      let on = on_order cells hs order h deep o i lt in
      let k = slice_get_within order on.0 i on.1 in
      to.each on.0 i (omega arith) on.1;
}

pub far_inside : (cells : List CellDraft) (i : ℕ) → IsFar cells i → i < length cells
far_inside cells i (p, (zero, inl (c, e, h)), far) = slice_get_within cells i c e
far_inside cells i (p, (zero, inr (inl (c, e, h))), far) = slice_get_within cells i c e
far_inside cells i (p, (zero, inr (inr (m, j, e, h))), far) = slice_get_within cells i e.has.cell e.has.there
far_inside cells i (p, (suc n, (m, j, e, q, h, is)), far) = slice_get_within cells i e.has.cell e.has.there

same_height : (R : ℕ → ℕ → Type 0) (i g h : ℕ) → IsHeightOf R i g → IsHeightOf R i h → g ≡ h
same_height R i g h a b = let x = a.longest h b.chain in let y = b.longest g a.chain in omega arith

pub first_far : (cells : List CellDraft) (hs order : List ℕ) (n i : ℕ) (found : List (Option Bounds)) (name : List ℕ) → HaveHeights cells hs → HasNoDeep cells → AreOrdered hs 65 0 order
    → slice_get order n ≡ Some i → IsNamed cells name i → IsFar cells i → AreBoundsTo cells order n found → IsFirstFar cells name
first_far cells hs order n i found name h deep o at named far to = record {
  cell = i;
  named = named;
  far = far;
  before = λ a earlier far_a. (
      let in_a = far_inside cells a far_a in
      let in_i = slice_get_within cells i named.cell named.there in
      let ha = same_height (Refers cells) a earlier.height_i (height_in hs a) earlier.of_i (h.each a in_a) in
      let hi = same_height (Refers cells) i earlier.height_j (height_in hs i) earlier.of_j (h.each i in_i) in
      let on = on_order cells hs order h deep o a in_a in
      elim (cases on.0 n) [
        | inl lt ↦ not_far cells a (found_at found a) (to.each on.0 a lt on.1) far_a
        | inr (inl e) ↦
            let same : a ≡ i = (let f : Some a ≡ Some i = sym (subst (λ k. slice_get order k ≡ Some a) e on.1) ∙ at in cc) in
            let f : height_in hs a ≡ height_in hs i = ap (height_in hs) same in
            elim earlier.before [ inl b ↦ (let z : ⊥ = omega arith in z) | inr b ↦ let c = b.1 in (let z : ⊥ = omega arith in z) ]
        | inr (inr lt) ↦ elim (o.rising n on.0 i a lt at on.1) [
          | inl g ↦ elim earlier.before [ inl b ↦ (let z : ⊥ = omega arith in z) | inr b ↦ let c = b.0 in (let z : ⊥ = omega arith in z) ]
          | inr g ↦ let g0 = g.0 in let g1 = g.1 in elim earlier.before [ inl b ↦ (let z : ⊥ = omega arith in z) | inr b ↦ let c = b.1 in (let z : ⊥ = omega arith in z) ]
        ]
      ]);
}

pub replicate_last : {A : Type 0} (n : ℕ) (x : A) → replicate n x ++ x ∷ [] ≡ replicate (n + 1) x
replicate_last zero x = refl
replicate_last (suc n) x = ap (λ xs. x ∷ xs) (replicate_last n x) ∙ ap (λ k. replicate k x) (let f : suc (n + 1) ≡ suc n + 1 = omega arith in f)
