-- Positions found by a look at each rectangle of a list.
use Rattle.std.proofs.Common.{◌≡◌, inl, inr, ℕ, pos, ◌+◌, ◌<◌, List, [], ◌∷◌, ◌++◌, Bool, true, false, length, get_or, sym, ◌∙◌, ap, subst, arith}
use Rattle.base_laws.proofs.Tests.{if_true, if_false}
use Rattle.std.proofs.lemmas.Bool.{cases_Bool}
use Rattle.std.specs.Prelude.{Contains}
use Rattle.std.specs.List.{filter, range_with_len}
use Rattle.std.specs.List.Sorted.{IsStrictlyIncreasing}
use Rattle.std.proofs.lemmas.List.{append-nil}
use Rattle.std.proofs.lemmas.List.Elements.{filter-append}
use Rattle.std.proofs.lemmas.List.FromFn.{length-range_with_len, get_or-range_with_len}
use Rattle.std.proofs.lemmas.List.Kept.{IsStrictlyIncreasing-filter}
use Rattle.std.proofs.lemmas.Option.{slice_get_within, slice_get-get_or, get_or_from_slice_get}
use Rattle.geo_base.specs.declared.shapes.Rect.{Rect}
use Rattle.tile_index.specs.Windows.{ArePositions, IsFound}
use Rattle.geo_base.specs.Rects.{meets}
use Rattle.geo_base.proofs.Meeting.{meets_share, share_meets}
use Rattle.tile_index.proofs.Positions.{IsOn, contains_on, on_contains, on_range, range_more}

abbrev pub zero_rect : Rect
zero_rect = record { x1 = pos 0; y1 = pos 0; x2 = pos 0; y2 = pos 0 }

-- the rectangle at a position shares a square with the window
abbrev pub is_hit : List Rect → Rect → ℕ → Bool
is_hit rects w k = meets (get_or rects k zero_rect) w

-- of the first n positions, those that do
abbrev pub found_to : List Rect → Rect → ℕ → List ℕ
found_to rects w n = filter (is_hit rects w) (range_with_len 0 n)

-- a position more
found_next : (rects : List Rect) (w : Rect) (n : ℕ) → found_to rects w (n + 1) ≡ found_to rects w n ++ filter (is_hit rects w) (n ∷ [])
found_next rects w n = ap (filter (is_hit rects w)) (sym (range_more n)) ∙ filter-append (is_hit rects w) (range_with_len 0 n) (n ∷ [])

pub hit_next : (rects : List Rect) (w : Rect) (n : ℕ) → is_hit rects w n ≡ true → found_to rects w n ++ n ∷ [] ≡ found_to rects w (n + 1)
hit_next rects w n is = ap (λ ks. found_to rects w n ++ ks) (sym (if_true (is_hit rects w n) (n ∷ []) [] is)) ∙ sym (found_next rects w n)

pub miss_next : (rects : List Rect) (w : Rect) (n : ℕ) → is_hit rects w n ≡ false → found_to rects w n ≡ found_to rects w (n + 1)
miss_next rects w n is = sym (append-nil (found_to rects w n)) ∙ ap (λ ks. found_to rects w n ++ ks) (sym (if_false (is_hit rects w n) (n ∷ []) [] is)) ∙ sym (found_next rects w n)

-- what a filter keeps
kept_on : (p : ℕ → Bool) (xs : List ℕ) (k : ℕ) → IsOn (filter p xs) k → IsOn xs k × (p k ≡ true)
kept_on p [] k on = absurd on
kept_on p (x ∷ xs) k on = elim (cases_Bool (p x)) [
  | inl hit ↦ elim (subst (λ ks. IsOn ks k) (if_true (p x) (x ∷ filter p xs) (filter p xs) hit) on) [
    | inl same ↦ (inl same, subst (λ i. p i ≡ true) same hit)
    | inr h ↦ (let f = kept_on p xs k h in (inr f.0, f.1))
  ]
  | inr miss ↦ (let f = kept_on p xs k (subst (λ ks. IsOn ks k) (if_false (p x) (x ∷ filter p xs) (filter p xs) miss) on) in (inr f.0, f.1))
]

on_kept : (p : ℕ → Bool) (xs : List ℕ) (k : ℕ) → IsOn xs k → p k ≡ true → IsOn (filter p xs) k
on_kept p [] k on is = absurd on
on_kept p (x ∷ xs) k on is = elim (cases_Bool (p x)) [
  | inl hit ↦ subst (λ ks. IsOn ks k) (sym (if_true (p x) (x ∷ filter p xs) (filter p xs) hit)) (elim on [ inl same ↦ inl same | inr h ↦ inr (on_kept p xs k h is) ])
  | inr miss ↦ subst (λ ks. IsOn ks k) (sym (if_false (p x) (x ∷ filter p xs) (filter p xs) miss)) (elim on [
    | inl same ↦ (let f : p x ≡ true = subst (λ i. p i ≡ true) (sym same) is in absurd (let z : ⊥ = cc in z))
    | inr h ↦ on_kept p xs k h is
  ])
]

range_below : (n k : ℕ) → Contains (range_with_len 0 n) k → k < n
range_below n k (i, lt, e) =
    let within : i < n = subst (λ m. i < m) (length-range_with_len 0 n) lt in
    let at = get_or-range_with_len 0 n i k within in
    omega arith

range_rises : (n : ℕ) → IsStrictlyIncreasing (range_with_len 0 n)
range_rises n k lt =
    let within : k + 1 < n = subst (λ m. k + 1 < m) (length-range_with_len 0 n) lt in
    let a = get_or-range_with_len 0 n k 0 (let f : k < n = omega arith in f) in
    let b = get_or-range_with_len 0 n (k + 1) 0 within in
    omega arith

-- all positions are what the window finds
pub scanned : (rects : List Rect) (w : Rect) (n : ℕ) (found : List ℕ) → n ≡ length rects → found ≡ found_to rects w n → ArePositions rects w found
scanned rects w n found long is = subst (λ ks. ArePositions rects w ks) (sym is) (subst (λ m. ArePositions rects w (found_to rects w m)) (sym long) all)
  where
    count : ℕ
    count = length rects

    to : (k : ℕ) → Contains (found_to rects w count) k → IsFound rects w k
    to k has =
        let kept = kept_on (is_hit rects w) (range_with_len 0 count) k (contains_on (found_to rects w count) k has) in
        let lt = range_below count k (on_contains (range_with_len 0 count) k kept.0) in
        (get_or rects k zero_rect, slice_get-get_or rects k zero_rect lt, meets_share (get_or rects k zero_rect) w kept.1)

    from : (k : ℕ) → IsFound rects w k → Contains (found_to rects w count) k
    from k (r, there, shares) =
        let lt = slice_get_within rects k r there in
        let at : r ≡ get_or rects k zero_rect = sym (get_or_from_slice_get rects k r zero_rect there) in
        let hit : is_hit rects w k ≡ true = ap (λ (q : Rect). meets q w) (sym at) ∙ share_meets r w shares in
        on_contains (found_to rects w count) k (on_kept (is_hit rects w) (range_with_len 0 count) k (contains_on (range_with_len 0 count) k (on_range count k lt)) hit)

    all : ArePositions rects w (found_to rects w count)
    all = record { each = λ k. ((λ has. to k has), (λ is. from k is)); ascending = IsStrictlyIncreasing-filter (is_hit rects w) (range_with_len 0 count) (range_rises count) }
