-- The canonical list of one rectangle.
use Rattle.std.proofs.Common.{◌≡◌, inl, inr, ℤ, pos, ◌-ℤ◌, ◌<ℤ◌, ◌≤ℤ◌, true, false, ◌&&◌, ◌||◌, List, [], ◌∷◌, sym, subst, ap, ◌∙◌, arith, length, ◌≤◌}
use Rattle.std.proofs.lemmas.Int.{ints, by_lt_z}
use Rattle.std.specs.List.{All, AllByRecursion as ByRecursion}
use Rattle.std.proofs.lemmas.List.Elements.{recursion_from_All}
use Rattle.geo_base.specs.declared.shapes.Rect.{Rect}
use Rattle.geo_base.specs.Rects.{is_between, IsRect}
use Rattle.rect_sets.specs.Rects.{covers, IsRun, IsBlock, IsListed, IsCanonical}

-- tests of one rectangle's list
inside : (a b c d x y : ℤ) → a ≤ℤ x → x <ℤ b → c ≤ℤ y → y <ℤ d → ((is_between a x b && is_between c y d) || false) ≡ true
inside a b c d x y e f g h = grind (arith, ints)

left : (a b c d x y : ℤ) → x <ℤ a → ((is_between a x b && is_between c y d) || false) ≡ false
left a b c d x y e = grind (arith, ints)

right : (a b c d x y : ℤ) → b ≤ℤ x → ((is_between a x b && is_between c y d) || false) ≡ false
right a b c d x y e = grind (arith, ints)

past_left : (a b c d x y : ℤ) → ((is_between a x b && is_between c y d) || false) ≡ true → a ≤ℤ x
past_left a b c d x y h = grind (arith, ints)

before_right : (a b c d x y : ℤ) → ((is_between a x b && is_between c y d) || false) ≡ true → x <ℤ b
before_right a b c d x y h = grind (arith, ints)

past_low : (a b c d x y : ℤ) → ((is_between a x b && is_between c y d) || false) ≡ true → c ≤ℤ y
past_low a b c d x y h = grind (arith, ints)

before_high : (a b c d x y : ℤ) → ((is_between a x b && is_between c y d) || false) ≡ true → y <ℤ d
before_high a b c d x y h = grind (arith, ints)

-- each row of the rectangle is a run
row_run : (r : Rect) (y : ℤ) → IsRect r → r.y1 ≤ℤ y → y <ℤ r.y2 → IsRun (covers (r ∷ [])) y r.x1 r.x2
row_run r y sound low high = record {
  some = sound.wide;
  inside = λ x a b. inside r.x1 r.x2 r.y1 r.y2 x y a b low high;
  before = left r.x1 r.x2 r.y1 r.y2 (r.x1 -ℤ pos 1) y (omega (arith, ints));
  after = right r.x1 r.x2 r.y1 r.y2 r.x2 y (omega (arith, ints));
}

-- a row that has a run of it is one of its rows
in_rows : (r : Rect) (y a b : ℤ) → IsRun (covers (r ∷ [])) y a b → (r.y1 ≤ℤ y) × (y <ℤ r.y2)
in_rows r y a b run =
    let here = run.inside a (omega (arith, ints)) run.some in
    (past_low r.x1 r.x2 r.y1 r.y2 a y here, before_high r.x1 r.x2 r.y1 r.y2 a y here)

block : (r : Rect) → IsRect r → IsBlock (covers (r ∷ [])) r
block r sound = record {
  some = sound.high;
  rows = λ y low high. row_run r y sound low high;
  below = λ run. let there = in_rows r (r.y1 -ℤ pos 1) r.x1 r.x2 run in let low = there.0 in omega (arith, ints, low);
  above = λ run. let there = in_rows r r.y2 r.x1 r.x2 run in let high = there.1 in omega (arith, ints, high);
}

-- its only run in a row is its own
same_left : (r : Rect) (y a b : ℤ) → IsRun (covers (r ∷ [])) y a b → a ≡ r.x1
same_left r y a b run =
    let here = run.inside a (omega (arith, ints)) run.some in
    let from = past_left r.x1 r.x2 r.y1 r.y2 a y here in
    let to = before_right r.x1 r.x2 r.y1 r.y2 a y here in
    let rows = in_rows r y a b run in
    by_lt_z r.x1 a
    (λ lt. absurd (let e : false ≡ true = sym run.before ∙ inside r.x1 r.x2 r.y1 r.y2 (a -ℤ pos 1) y (omega (arith, ints, lt)) (omega (arith, ints, to)) rows.0 rows.1 in cc))
    (λ le. omega (arith, ints, from, le))

same_right : (r : Rect) (y a b : ℤ) → IsRun (covers (r ∷ [])) y a b → b ≡ r.x2
same_right r y a b run =
    let some = run.some in
    let last = run.inside (b -ℤ pos 1) (omega (arith, ints, some)) (omega (arith, ints)) in
    let from = past_left r.x1 r.x2 r.y1 r.y2 (b -ℤ pos 1) y last in
    let to = before_right r.x1 r.x2 r.y1 r.y2 (b -ℤ pos 1) y last in
    let rows = in_rows r y a b run in
    by_lt_z b r.x2
    (λ lt. absurd (let e : false ≡ true = sym run.after ∙ inside r.x1 r.x2 r.y1 r.y2 b y (omega (arith, ints, from)) lt rows.0 rows.1 in cc))
    (λ le. omega (arith, ints, to, le))

-- the row below the first and the row above the last aren't the rectangle's
same_low : (r q : Rect) → IsRect r → q.x1 ≡ r.x1 → q.x2 ≡ r.x2 → IsBlock (covers (r ∷ [])) q → q.y1 ≡ r.y1
same_low r q sound left right b =
    let rows = in_rows r q.y1 q.x1 q.x2 (b.rows q.y1 (omega (arith, ints)) b.some) in
    let low = rows.0 in let high = rows.1 in
    by_lt_z r.y1 q.y1
    (λ lt. absurd (b.below (subst (λ (z : ℤ). IsRun (covers (r ∷ [])) (q.y1 -ℤ pos 1) z q.x2) (sym left) (subst (λ (z : ℤ). IsRun (covers (r ∷ [])) (q.y1 -ℤ pos 1) r.x1 z) (sym right)
    (row_run r (q.y1 -ℤ pos 1) sound (omega (arith, ints, lt)) (omega (arith, ints, high)))))))
    (λ le. omega (arith, ints, low, le))

same_high : (r q : Rect) → IsRect r → q.x1 ≡ r.x1 → q.x2 ≡ r.x2 → IsBlock (covers (r ∷ [])) q → q.y2 ≡ r.y2
same_high r q sound left right b =
    let some = b.some in
    let rows = in_rows r (q.y2 -ℤ pos 1) q.x1 q.x2 (b.rows (q.y2 -ℤ pos 1) (omega (arith, ints, some)) (omega (arith, ints))) in
    let low = rows.0 in let high = rows.1 in
    by_lt_z q.y2 r.y2
    (λ lt. absurd (b.above (subst (λ (z : ℤ). IsRun (covers (r ∷ [])) q.y2 z q.x2) (sym left) (subst (λ (z : ℤ). IsRun (covers (r ∷ [])) q.y2 r.x1 z) (sym right)
    (row_run r q.y2 sound (omega (arith, ints, low)) lt)))))
    (λ le. omega (arith, ints, high, le))

only_block : (r q : Rect) → IsRect r → IsBlock (covers (r ∷ [])) q → q ≡ r
only_block r q sound b =
    let first = b.rows q.y1 (omega (arith, ints)) b.some in
    let left = same_left r q.y1 q.x1 q.x2 first in
    let right = same_right r q.y1 q.x1 q.x2 first in
    let low = same_low r q sound left right b in
    let high = same_high r q sound left right b in
    ap (λ (z : ℤ). let p : Rect = record { x1 = z; y1 = q.y1; x2 = q.x2; y2 = q.y2 } in p) left
    ∙ ap (λ (z : ℤ). let p : Rect = record { x1 = r.x1; y1 = z; x2 = q.x2; y2 = q.y2 } in p) low
    ∙ ap (λ (z : ℤ). let p : Rect = record { x1 = r.x1; y1 = r.y1; x2 = z; y2 = q.y2 } in p) right
    ∙ ap (λ (z : ℤ). let p : Rect = record { x1 = r.x1; y1 = r.y1; x2 = r.x2; y2 = z } in p) high

listed : (r q : Rect) → IsRect r → IsListed q (r ∷ []) → IsBlock (covers (r ∷ [])) q
listed r q sound (inl e) = subst (IsBlock (covers (r ∷ []))) (sym e) (block r sound)
listed r q sound (inr h) = absurd h

no_block : (q : Rect) → IsBlock (covers []) q → ⊥
no_block q b =
    let run = b.rows q.y1 (omega (arith, ints)) b.some in
    let e : false ≡ true = run.inside q.x1 (omega (arith, ints)) run.some in cc

few : (rects : List Rect) → ByRecursion IsRect rects → length rects ≤ 1 → IsCanonical rects
few [] h lt = record { each = λ q. ((λ i. absurd i), (λ b. no_block q b)); ordered = tt }
few (r ∷ []) h lt = record { each = λ q. (listed r q h.0, (λ b. inl (only_block r q h.0 b))); ordered = (tt, tt) }
few (r ∷ p ∷ rects) h lt = absurd (omega (arith, lt))

-- no rectangle, or one, is a canonical list
pub few_canonical : (rects : List Rect) → All IsRect rects → length rects ≤ 1 → IsCanonical rects
few_canonical rects h lt = few rects (recursion_from_All IsRect rects h) lt
