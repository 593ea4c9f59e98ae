-- Whether two sets have a common square, rectangle by rectangle.
use Rattle.std.proofs.Common.{◌≡◌, ◌==◌, inl, inr, ℕ, zero, suc, ◌+◌, ◌<◌, ◌≤◌, List, [], ◌∷◌, Some, Bool, true, false, ◌&&◌, ◌||◌, length, get_or, take, slice_get, refl, sym, ◌∙◌, ap, arith}
use Rattle.std.proofs.lemmas.Bool.{eqb-true, false≢true, and_from, false_from_ne_true, or_cases, and_parts}
use Rattle.std.proofs.lemmas.List.{get_or_default, take_more, take_all}
use Rattle.std.proofs.lemmas.Option.{slice_get_within, get_or_from_slice_get}
use Rattle.geo_base.specs.Rects.{has}
use Rattle.geo_base.specs.declared.shapes.Rect.{Rect}
use Rattle.geo_base.specs.declared.shapes.Square.{Square}
use Rattle.rect_sets.specs.Rects.{covers}
use Rattle.rect_sets.proofs.Blocking.{listed_covers}
use Rattle.rect_sets.proofs.Splitting.{covers_append}
use Rattle.rect_sets.proofs.Unique.{listed_get}
use Rattle.tile_index.specs.Windows.{ArePositions}
use Rattle.gate_shapes.specs.Sets.{in_set}
use Rattle.gate_shapes.specs.Shapes.{Meet, MissEachOther}

pub miss_none : (rects other : List Rect) → MissEachOther (take 0 rects) other
miss_none rects other q e f = false≢true e

-- a rectangle of the list that has the square, by its number
covering : (rects : List Rect) (q : Square) → in_set rects q → (k : ℕ) × (r : Rect) × (slice_get rects k ≡ Some r) × (has r q ≡ true)
covering [] q e = absurd (false≢true e)
covering (r ∷ rects) q e = elim (or_cases (has r q) (covers rects q) e) [
  | inl h ↦ (0, r, refl, h)
  | inr h ↦ (let t = covering rects q h in (suc t.0, t.1, t.2, t.3))
]

-- what the test of a list's length tells
pub some_in : (n long : ℕ) (empty : Bool) → long ≡ n → empty ≡ (long == 0) → empty ≡ false → 0 < n
some_in n zero empty is told e = let f : false ≡ true = sym e ∙ told in let z : ⊥ = cc in absurd z
some_in n (suc m) empty is told e = omega (arith, is)

pub none_in : (n long : ℕ) (empty : Bool) → long ≡ n → empty ≡ (long == 0) → empty ≡ true → n ≡ 0
none_in n long empty is told e = sym is ∙ eqb-true long 0 (sym told ∙ e)

-- where some rectangle is found in the window, the sets meet
pub met_at : (set rects other : List Rect) (near : List ℕ) (i : ℕ) (d : Rect) → rects ≡ set → i < length rects → ArePositions other (get_or rects i d) near → 0 < length near → Meet set other
met_at set rects other near i d is lt are some =
    let f = (are.each (get_or near 0 0)).0 (0, some, get_or_default near 0 (get_or near 0 0) 0 some) in
    let s = f.2 in
    (s.0, sym (ap (λ (l : List Rect). covers l s.0) is) ∙ listed_covers rects s.0 (get_or rects i d) (listed_get rects i d lt) s.2, found_covers other _ f.0 s.0 f.1 s.1)
  where
    found_covers : (rects : List Rect) (k : ℕ) (r : Rect) (q : Square) → slice_get rects k ≡ Some r → has r q ≡ true → covers rects q ≡ true
    found_covers rects k r q at e =
        listed_covers rects q (get_or rects k r) (listed_get rects k r (slice_get_within rects k r at)) (ap (λ (x : Rect). has x q) (get_or_from_slice_get rects k r r at) ∙ e)

pub miss_more : (rects other near : List Rect) (i : ℕ) (d : Rect) → i < length rects → ((q : Square) → covers near q ≡ (covers other q && has (get_or rects i d) q)) → ((q : Square) → in_set near q → ⊥)
    → MissEachOther (take i rects) other → MissEachOther (take (i + 1) rects) other
miss_more rects other near i d lt cut none h q e f =
    let r = get_or rects i d in
    let more : covers (take (i + 1) rects) q ≡ (covers (take i rects) q || covers (r ∷ []) q) = ap (λ (l : List Rect). covers l q) (take_more rects i d lt) ∙ covers_append (take i rects) (r ∷ []) q in
    elim (or_cases (covers (take i rects) q) (covers (r ∷ []) q) (sym more ∙ e)) [
      | inl g ↦ h q g f
      | inr g ↦ elim (or_cases (has r q) false g) [ inl k ↦ none q (cut q ∙ and_from (covers other q) (has r q) f k) | inr k ↦ false≢true k ]
    ]

-- where none is, the sets miss each other so far
pub miss_next : (rects other : List Rect) (near : List ℕ) (i : ℕ) (d : Rect) → i < length rects → ArePositions other (get_or rects i d) near → length near ≡ 0 → MissEachOther (take i rects) other
    → MissEachOther (take (i + 1) rects) other
miss_next rects other near i d lt are none before =
    miss_more rects other [] i d lt (λ q. sym (false_from_ne_true (covers other q && has (get_or rects i d) q) (λ e. apart q e))) (λ q e. false≢true e) before
  where
    apart : (q : Square) → (covers other q && has (get_or rects i d) q) ≡ true → ⊥
    apart q e =
        let both = and_parts (covers other q) (has (get_or rects i d) q) e in
        let t = covering other q both.0 in
        let c = (are.each t.0).1 (t.1, t.2, (q, t.3, both.1)) in
        let within = c.1 in
        omega (arith, none, within)

pub miss_all : (set rects other : List Rect) (i : ℕ) → rects ≡ set → length rects ≤ i → MissEachOther (take i rects) other → Meet set other → ⊥
miss_all set rects other i is le h m = h m.0 (ap (λ (l : List Rect). covers l m.0) (take_all i rects le ∙ is) ∙ m.1) m.2
