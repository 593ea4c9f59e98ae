-- Whether two sets come near each other, rectangle by rectangle.
use Rattle.std.proofs.Common.{◌≡◌, inl, inr, ℕ, suc, ◌+◌, ◌<◌, ◌≤◌, List, [], ◌∷◌, Some, true, false, ◌||◌, length, get_or, take, slice_get, refl, sym, ◌∙◌, ap, subst, arith}
use Rattle.std.proofs.lemmas.Bool.{false≢true, or_cases}
use Rattle.std.proofs.lemmas.List.{get_or_default, take_more, take_all}
use Rattle.std.proofs.lemmas.Option.{slice_get_within, get_or_from_slice_get}
use Rattle.geo_base.specs.Rects.{has, IsRect, grown}
use Rattle.geo_base.specs.declared.shapes.Rect.{Rect}
use Rattle.geo_base.specs.declared.shapes.Square.{Square}
use Rattle.rect_sets.specs.Rects.{IsCanonical, covers}
use Rattle.rect_sets.proofs.Blocking.{listed_covers}
use Rattle.rect_sets.proofs.Splitting.{covers_append}
use Rattle.rect_sets.proofs.Unique.{listed_get, rect_of}
use Rattle.tile_index.specs.Windows.{ArePositions}
use Rattle.flat_layout.specs.Plane.{IsReachedBy}
use Rattle.cell_graph.proofs.Growing.{near_rect, within_rect}
use Rattle.gate_shapes.specs.Sets.{in_set}
use Rattle.gate_phase.specs.Close.{AreApart}

pub apart_none : (n : ℕ) (rects other : List Rect) → AreApart n (take 0 rects) other
apart_none n rects other q e near = false≢true e

-- a rectangle of the list that has the square, by its number
covering : (rects : List Rect) (q : Square) → in_set rects q → (k : ℕ) × (r : Rect) × (slice_get rects k ≡ Some r) × (has r q ≡ true)
covering [] q e = absurd (false≢true e)
covering (r ∷ rects) q e = elim (or_cases (has r q) (covers rects q) e) [
  | inl h ↦ (0, r, refl, h)
  | inr h ↦ (let t = covering rects q h in (suc t.0, t.1, t.2, t.3))
]

found_covers : (rects : List Rect) (k : ℕ) (r : Rect) (q : Square) → slice_get rects k ≡ Some r → has r q ≡ true → covers rects q ≡ true
found_covers rects k r q at e = listed_covers rects q (get_or rects k r) (listed_get rects k r (slice_get_within rects k r at)) (ap (λ (x : Rect). has x q) (get_or_from_slice_get rects k r r at) ∙ e)

-- a square of a set near which the other has one
pub record ComeNear (n : ℕ) (set other : List Rect) : Type 0 where
  pub square : Square
  pub here : in_set set square
  pub near : IsReachedBy n (in_set other) square

-- a rectangle of a canonical list has squares
pub rect_at : (set rects : List Rect) (i : ℕ) (d : Rect) → rects ≡ set → IsCanonical set → i < length rects → IsRect (get_or rects i d)
rect_at set rects i d is good lt = rect_of (covers rects) (get_or rects i d) (((subst IsCanonical (sym is) good).each (get_or rects i d)).0 (listed_get rects i d lt))

-- where some rectangle is found in the grown window, the sets come near each other
pub near_at : (n : ℕ) (set rects other : List Rect) (near : List ℕ) (i : ℕ) (d : Rect) → rects ≡ set → IsRect (get_or rects i d) → i < length rects → ArePositions other (grown n (get_or rects i d)) near → 0 < length near → ComeNear n set other
near_at n set rects other near i d is some lt are more =
    let f = (are.each (get_or near 0 0)).0 (0, more, get_or_default near 0 (get_or near 0 0) 0 more) in
    let s = f.2 in
    let a = near_rect n (get_or rects i d) s.0 some s.2 in
    record {
      square = a.0;
      here = sym (ap (λ (l : List Rect). covers l a.0) is) ∙ listed_covers rects a.0 (get_or rects i d) (listed_get rects i d lt) a.1;
      near = record { square = s.0; within = a.2; has = found_covers other _ f.0 s.0 f.1 s.1 };
    }

-- where none is, the sets are apart so far
pub apart_next : (n : ℕ) (rects other : List Rect) (near : List ℕ) (i : ℕ) (d : Rect) → i < length rects → ArePositions other (grown n (get_or rects i d)) near → length near ≡ 0 → AreApart n (take i rects) other
    → AreApart n (take (i + 1) rects) other
apart_next n rects other near i d lt are none h q e reached =
    let r = get_or rects i d in
    let more : covers (take (i + 1) rects) q ≡ (covers (take i rects) q || covers (r ∷ []) q) = ap (λ (l : List Rect). covers l q) (take_more rects i d lt) ∙ covers_append (take i rects) (r ∷ []) q in
    elim (or_cases (covers (take i rects) q) (covers (r ∷ []) q) (sym more ∙ e)) [
      | inl g ↦ h q g reached
      | inr g ↦ elim (or_cases (has r q) false g) [
        | inl k ↦
            let t = covering other reached.square reached.has in
            let c = (are.each t.0).1 (t.1, t.2, (reached.square, t.3, within_rect n r reached.square q k reached.within)) in
            let within = c.1 in
            omega (arith, none, within)
        | inr k ↦ false≢true k
      ]
    ]

pub apart_all : (n : ℕ) (set rects other : List Rect) (i : ℕ) → rects ≡ set → length rects ≤ i → AreApart n (take i rects) other → AreApart n set other
apart_all n set rects other i is le h q e = h q (ap (λ (l : List Rect). covers l q) (take_all i rects le ∙ is) ∙ e)
