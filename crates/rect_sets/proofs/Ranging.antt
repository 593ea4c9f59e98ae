-- Rectangles in order of their x ranges, and what a search finds among them.
use Rattle.std.proofs.Common.{◌≡◌, inl, inr, ℕ, ℤ, ◌+◌, ◌<◌, List, [], ◌∷◌, ◌++◌, length, take, get_or, Err, sym, ◌∙◌, subst, arith}
use Rattle.std.proofs.lemmas.Bool.{cases_lt}
use Rattle.std.proofs.lemmas.Int.{ints}
use Rattle.std.proofs.lemmas.Cmp.{int_cmp_total}
use Rattle.std.proofs.lemmas.List.{take_more, take_all}
use Rattle.std.proofs.lemmas.List.Sorted.{searchable_from_sorted, IsPermutation-sym}
use Rattle.std.specs.Cmp.{IsTotalOrder, on_total, then_total}
use Rattle.std.specs.List.Sorted.{IsBinarySearchResult, IsPermutation}
use Rattle.std.specs.Ordering.{ordering_then, int_cmp}
use Rattle.std.specs.declared.cmp.Ordering.{Ordering}
use Rattle.std.specs.declared.cmp.Ordering.TheVariants.{Less, Equal, Greater}
use Rattle.geo_base.specs.declared.shapes.Rect.{Rect}
use Rattle.rect_sets.specs.Rects.{IsListed}
use Rattle.rect_sets.specs.Levels.{range_cmp, AreSortedRanges, HasRangeOf, HasRange, GoesOn, AreGrown, AddsOthers, AreJoinedAcross}
use Rattle.rect_sets.proofs.Ordering.{listed_contains, listed_permuted, listed_push, push_old, push_new}
use Rattle.rect_sets.proofs.Splitting.{listed_either, listed_first, listed_second}
use Rattle.rect_sets.proofs.Unique.{listed_get}

range_total : IsTotalOrder range_cmp
range_total = then_total (on_total (λ (r : Rect). r.x1) int_cmp_total) (on_total (λ (r : Rect). r.x2) int_cmp_total)

equal_from : (a b : Rect) → range_cmp a b ≡ Equal → (a.x1 ≡ b.x1) × (a.x2 ≡ b.x2)
equal_from a b h = (grind (arith, ints), grind (arith, ints))

equal_to : (a b : Rect) → a.x1 ≡ b.x1 → a.x2 ≡ b.x2 → range_cmp a b ≡ Equal
equal_to a b e f = grind (arith, ints)

pub found_at : (xs : List Rect) (r d : Rect) (at : ℕ) (u v : ℤ) → u ≡ r.x1 → v ≡ r.x2 → at < length xs → ordering_then (int_cmp (get_or xs at d).x1 u) (int_cmp (get_or xs at d).x2 v) ≡ Equal → HasRangeOf xs r (get_or xs at d)
found_at xs r d at u v e f lt h =
    let t : Rect = record { x1 = u; y1 = r.y1; x2 = v; y2 = r.y2 } in
    let s = equal_from (get_or xs at d) t h in record { listed = listed_get xs at d lt; x1 = s.0 ∙ e; x2 = s.1 ∙ f }

not_less : (o : Ordering) → o ≡ Equal → o ≡ Less → ⊥
not_less Less h g = cc
not_less Equal h g = cc
not_less Greater h g = cc

not_greater : (o : Ordering) → o ≡ Equal → o ≡ Greater → ⊥
not_greater Less h g = cc
not_greater Equal h g = cc
not_greater Greater h g = cc

pub found_none : (xs : List Rect) (r : Rect) (at : ℕ) (u v : ℤ) → u ≡ r.x1 → v ≡ r.x2 → AreSortedRanges xs → IsBinarySearchResult (λ y. ordering_then (int_cmp y.x1 u) (int_cmp y.x2 v)) xs (Err at) → HasRange xs r → ⊥
found_none xs r at u v e f sorted h one =
    let t : Rect = record { x1 = u; y1 = r.y1; x2 = v; y2 = r.y2 } in
    let q = one.0 in
    let p = h (searchable_from_sorted range_total (λ (y : Rect). y) xs t sorted) in
    let c = listed_contains q xs one.1.listed in
    let here : range_cmp (get_or xs c.0 q) t ≡ Equal = subst (λ (y : Rect). range_cmp y t ≡ Equal) (sym c.2) (equal_to q t (one.1.x1 ∙ sym e) (one.1.x2 ∙ sym f)) in
    elim (cases_lt c.0 at) [
      | inl lt ↦ not_less _ here (p.0 c.0 q (omega arith) lt)
      | inr le ↦ not_greater _ here (p.1 c.0 q le c.1)
    ]

-- the loops

pub grown_none : (above below : List Rect) → AreGrown above (take 0 below) []
grown_none above below = record { from = λ r l. absurd l; each = λ p l. absurd l }

grown_push : (above seen out : List Rect) (p r : Rect) → AreGrown above seen out → GoesOn above p r → AreGrown above (seen ++ p ∷ []) (out ++ r ∷ [])
grown_push above seen out p r h g = record {
  from = λ q l. elim (listed_push q r out l) [
    | inl a ↦ (let f = h.from q a in record { one = f.one; listed = push_old f.one p seen f.listed; is = f.is })
    | inr e ↦ record { one = p; listed = push_new p seen; is = subst (λ (z : Rect). GoesOn above p z) (sym e) g }
  ];
  each = λ q l. elim (listed_push q p seen l) [
    | inl a ↦ (let f = h.each q a in record { one = f.one; listed = push_old f.one r out f.listed; is = f.is })
    | inr e ↦ record { one = r; listed = push_new r out; is = subst (λ (z : Rect). GoesOn above z r) (sym e) g }
  ];
}

pub grown_more : (above below out : List Rect) (i : ℕ) (d r : Rect) → i < length below → AreGrown above (take i below) out → GoesOn above (get_or below i d) r → AreGrown above (take (i + 1) below) (out ++ r ∷ [])
grown_more above below out i d r lt h g = subst (λ (xs : List Rect). AreGrown above xs (out ++ r ∷ [])) (sym (take_more below i d lt)) (grown_push above (take i below) out (get_or below i d) r h g)

pub grown_end : (above below out : List Rect) (i : ℕ) → length below < i + 1 → AreGrown above (take i below) out → AreGrown above below out
grown_end above below out i le h = subst (λ (xs : List Rect). AreGrown above xs out) (take_all i below (omega arith)) h

pub added_none : (below old above : List Rect) → AddsOthers below (take 0 above) old old
added_none below old above = record { from = λ r l. inl l; kept = λ r l. l; each = λ q l. absurd l }

pub added_not : (below old : List Rect) (q : Rect) → HasRange below q → AddsOthers below (q ∷ []) old old
added_not below old q h = record {
  from = λ r l. inl l;
  kept = λ r l. l;
  each = λ r l. elim l [ inl e ↦ inl (subst (λ (z : Rect). HasRange below z) (sym e) h) | inr n ↦ absurd n ];
}

pub added_one : (below old : List Rect) (q : Rect) → (HasRange below q → ⊥) → AddsOthers below (q ∷ []) old (old ++ q ∷ [])
added_one below old q h = record {
  from = λ r l. elim (listed_push r q old l) [ inl a ↦ inl a | inr e ↦ inr (inl e, subst (λ (z : Rect). HasRange below z → ⊥) (sym e) h) ];
  kept = λ r l. push_old r q old l;
  each = λ r l. elim l [ inl e ↦ inr (subst (λ (z : Rect). IsListed z (old ++ q ∷ [])) (sym e) (push_new q old)) | inr n ↦ absurd n ];
}

added_both : (below xs ys old mid new : List Rect) → AddsOthers below xs old mid → AddsOthers below ys mid new → AddsOthers below (xs ++ ys) old new
added_both below xs ys old mid new h k = record {
  from = λ r l. elim (k.from r l) [
    | inl a ↦ elim (h.from r a) [ inl b ↦ inl b | inr b ↦ inr (listed_first r xs ys b.0, b.1) ]
    | inr a ↦ inr (listed_second r xs ys a.0, a.1)
  ];
  kept = λ r l. k.kept r (h.kept r l);
  each = λ q l. elim (listed_either q xs ys l) [
    | inl a ↦ elim (h.each q a) [ inl b ↦ inl b | inr b ↦ inr (k.kept q b) ]
    | inr a ↦ k.each q a
  ];
}

pub added_more : (below above old mid new : List Rect) (i : ℕ) (d : Rect) → i < length above → AddsOthers below (take i above) old mid → AddsOthers below (get_or above i d ∷ []) mid new → AddsOthers below (take (i + 1) above) old new
added_more below above old mid new i d lt h k = subst (λ (xs : List Rect). AddsOthers below xs old new) (sym (take_more above i d lt)) (added_both below (take i above) (get_or above i d ∷ []) old mid new h k)

pub added_end : (below above old new : List Rect) (i : ℕ) → length above < i + 1 → AddsOthers below (take i above) old new → AddsOthers below above old new
added_end below above old new i le h = subst (λ (xs : List Rect). AddsOthers below xs old new) (take_all i above (omega arith)) h

-- lists in another order

range_permuted : (xs ys : List Rect) (r q : Rect) → IsPermutation xs ys → HasRangeOf xs r q → HasRangeOf ys r q
range_permuted xs ys r q p h = record { listed = listed_permuted xs ys q p h.listed; x1 = h.x1; x2 = h.x2 }

goes_permuted : (xs ys : List Rect) (p r : Rect) → IsPermutation xs ys → GoesOn ys p r → GoesOn xs p r
goes_permuted xs ys p r m (inl g) = inl (g.0, range_permuted ys xs p g.0 (IsPermutation-sym xs ys m) g.1, g.2)
goes_permuted xs ys p r m (inr g) = inr (λ h. g.0 (h.0, range_permuted xs ys p h.0 m h.1), g.1)

pub joined_across : (below above sorted_below sorted_above grown out : List Rect) → IsPermutation below sorted_below → IsPermutation above sorted_above → AreGrown sorted_above sorted_below grown → AddsOthers sorted_below sorted_above grown out → AreJoinedAcross below above out
joined_across below above sorted_below sorted_above grown out b a g k = record {
  from = λ r l. elim (k.from r l) [
    | inl x ↦ (let f = g.from r x in inl (record { one = f.one; listed = listed_permuted sorted_below below f.one b' f.listed; is = goes_permuted above sorted_above f.one r a f.is }))
    | inr x ↦ inr (listed_permuted sorted_above above r a' x.0, λ h. x.1 (h.0, range_permuted below sorted_below r h.0 b h.1))
  ];
  low = λ p l. let f = g.each p (listed_permuted below sorted_below p b l) in record { one = f.one; listed = k.kept f.one f.listed; is = goes_permuted above sorted_above p f.one a f.is };
  high = λ q l. elim (k.each q (listed_permuted above sorted_above q a l)) [
    | inl h ↦ inl (h.0, range_permuted sorted_below below q h.0 b' h.1)
    | inr n ↦ inr n
  ];
}
  where
    b' : IsPermutation sorted_below below
    b' = IsPermutation-sym below sorted_below b

    a' : IsPermutation sorted_above above
    a' = IsPermutation-sym above sorted_above a
