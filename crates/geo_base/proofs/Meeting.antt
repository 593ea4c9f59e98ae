-- Rectangles that share a square, that lie within others, their common part and their bounding box.
use Rattle.std.proofs.Common.{◌≡◌, Bool, ◌&&◌, ℕ, ℤ, ◌≤ℤ◌, ◌<ℤ◌, true, false, ap, sym, ◌∙◌, arith}
use Rattle.base_laws.proofs.Tests.{same_truth, not_both, lt_from, lt_to, le_from, le_to}
use Rattle.std.proofs.lemmas.Bool.{and_from, and_parts, false≢true}
use Rattle.std.specs.Prelude.{int_lt, int_le}
use Rattle.std.specs.Int.{int_min, int_max}
use Rattle.std.proofs.lemmas.Int.{ints, clamps}
use Rattle.geo_base.specs.Rects.{has, is_between, ShareSquare, IsInside, IsRect, is_inside, is_rect, meets, bounding_box, common, grown, RectLaws}
use Rattle.geo_base.specs.declared.shapes.Rect.{Rect}
use Rattle.geo_base.specs.declared.shapes.Square.{Square}

-- the ranges of one axis share a number
axis : (a1 a2 b1 b2 s : ℤ) → is_between a1 s a2 ≡ true → is_between b1 s b2 ≡ true → int_lt (int_max a1 b1) (int_min a2 b2) ≡ true
axis a1 a2 b1 b2 s f g =
    let low_a : a1 ≤ℤ s = le_from a1 s ((and_parts (int_le a1 s) (int_lt s a2) f).0) in
    let high_a : s <ℤ a2 = lt_from s a2 ((and_parts (int_le a1 s) (int_lt s a2) f).1) in
    let low_b : b1 ≤ℤ s = le_from b1 s ((and_parts (int_le b1 s) (int_lt s b2) g).0) in
    let high_b : s <ℤ b2 = lt_from s b2 ((and_parts (int_le b1 s) (int_lt s b2) g).1) in
    lt_to (int_max a1 b1) (int_min a2 b2) (omega (arith, ints, clamps))

-- and begin with one
first : (a1 a2 b1 b2 : ℤ) → int_lt (int_max a1 b1) (int_min a2 b2) ≡ true → (is_between a1 (int_max a1 b1) a2 ≡ true) × (is_between b1 (int_max a1 b1) b2 ≡ true)
first a1 a2 b1 b2 e =
    let lt = lt_from (int_max a1 b1) (int_min a2 b2) e in (
      and_from _ _ (le_to a1 (int_max a1 b1) (omega (arith, ints, clamps))) (lt_to (int_max a1 b1) a2 (omega (arith, ints, clamps))),
      and_from _ _ (le_to b1 (int_max a1 b1) (omega (arith, ints, clamps))) (lt_to (int_max a1 b1) b2 (omega (arith, ints, clamps))),
    )

wider : (a1 a2 h1 h2 b1 b2 : ℤ) → h1 ≤ℤ a1 → a2 ≤ℤ h2 → int_lt (int_max a1 b1) (int_min a2 b2) ≡ true → int_lt (int_max h1 b1) (int_min h2 b2) ≡ true
wider a1 a2 h1 h2 b1 b2 low high e =
    let lt = lt_from (int_max a1 b1) (int_min a2 b2) e in
    lt_to (int_max h1 b1) (int_min h2 b2) (omega (arith, ints, clamps))

pub share_meets : (a b : Rect) → ShareSquare a b → meets a b ≡ true
share_meets a b (s, in_a, in_b) =
    and_from _ _ (axis a.x1 a.x2 b.x1 b.x2 s.x ((and_parts _ _ in_a).0) ((and_parts _ _ in_b).0))
    (axis a.y1 a.y2 b.y1 b.y2 s.y ((and_parts _ _ in_a).1) ((and_parts _ _ in_b).1))

pub meets_share : (a b : Rect) → meets a b ≡ true → ShareSquare a b
meets_share a b e =
    let x = first a.x1 a.x2 b.x1 b.x2 ((and_parts _ _ e).0) in
    let y = first a.y1 a.y2 b.y1 b.y2 ((and_parts _ _ e).1) in
    let s : Square = record { x = int_max a.x1 b.x1; y = int_max a.y1 b.y1 } in
    (s, and_from _ _ x.0 y.0, and_from _ _ x.1 y.1)

-- what a rectangle shares, one around it shares too
pub inside_meets : (r hull w : Rect) → IsInside r hull → meets r w ≡ true → meets hull w ≡ true
inside_meets r hull w h e =
    and_from _ _ (wider r.x1 r.x2 hull.x1 hull.x2 w.x1 w.x2 h.x1 h.x2 ((and_parts _ _ e).0))
    (wider r.y1 r.y2 hull.y1 hull.y2 w.y1 w.y2 h.y1 h.y2 ((and_parts _ _ e).1))

pub in_left : (a b : Rect) → IsInside a (bounding_box a b)
in_left a b = record { x1 = omega (arith, ints, clamps); y1 = omega (arith, ints, clamps); x2 = omega (arith, ints, clamps); y2 = omega (arith, ints, clamps) }

pub in_right : (a b : Rect) → IsInside b (bounding_box a b)
in_right a b = record { x1 = omega (arith, ints, clamps); y1 = omega (arith, ints, clamps); x2 = omega (arith, ints, clamps); y2 = omega (arith, ints, clamps) }

pub inside_too : (a b c : Rect) → IsInside a b → IsInside b c → IsInside a c
inside_too a b c h g =
    let h1 = h.x1 in let h2 = h.y1 in let h3 = h.x2 in let h4 = h.y2 in
    let g1 = g.x1 in let g2 = g.y1 in let g3 = g.x2 in let g4 = g.y2 in
    record { x1 = omega (arith, ints); y1 = omega (arith, ints); x2 = omega (arith, ints); y2 = omega (arith, ints) }

in_range : (a b s : ℤ) → is_between a s b ≡ true → (a ≤ℤ s) × (s <ℤ b)
in_range a b s e = (le_from a s ((and_parts (int_le a s) (int_lt s b) e).0), lt_from s b ((and_parts (int_le a s) (int_lt s b) e).1))

to_range : (a b s : ℤ) → a ≤ℤ s → s <ℤ b → is_between a s b ≡ true
to_range a b s low high = and_from _ _ (le_to a s low) (lt_to s b high)

-- a rectangle has a square where both ranges have it
parts : (r : Rect) (s : Square) → has r s ≡ true → (is_between r.x1 s.x r.x2 ≡ true) × (is_between r.y1 s.y r.y2 ≡ true)
parts r s e = and_parts (is_between r.x1 s.x r.x2) (is_between r.y1 s.y r.y2) e

pub inside_has : (a b : Rect) (s : Square) → IsInside a b → has a s ≡ true → has b s ≡ true
inside_has a b s h e =
    let p = parts a s e in
    let x = in_range a.x1 a.x2 s.x p.0 in
    let y = in_range a.y1 a.y2 s.y p.1 in
    let x0 = x.0 in let x1 = x.1 in let y0 = y.0 in let y1 = y.1 in
    let h1 = h.x1 in let h2 = h.y1 in let h3 = h.x2 in let h4 = h.y2 in
    and_from _ _ (to_range b.x1 b.x2 s.x (omega (arith, ints)) (omega (arith, ints))) (to_range b.y1 b.y2 s.y (omega (arith, ints)) (omega (arith, ints)))

pub inside_from : (a b : Rect) → is_inside a b ≡ true → IsInside a b
inside_from a b e =
    let both = and_parts (int_le b.x1 a.x1 && int_le a.x2 b.x2) (int_le b.y1 a.y1 && int_le a.y2 b.y2) e in
    let x = and_parts (int_le b.x1 a.x1) (int_le a.x2 b.x2) both.0 in
    let y = and_parts (int_le b.y1 a.y1) (int_le a.y2 b.y2) both.1 in
    record { x1 = le_from b.x1 a.x1 x.0; y1 = le_from b.y1 a.y1 y.0; x2 = le_from a.x2 b.x2 x.1; y2 = le_from a.y2 b.y2 y.1 }

pub inside_to : (a b : Rect) → IsInside a b → is_inside a b ≡ true
inside_to a b h = and_from _ _ (and_from _ _ (le_to b.x1 a.x1 h.x1) (le_to a.x2 b.x2 h.x2)) (and_from _ _ (le_to b.y1 a.y1 h.y1) (le_to a.y2 b.y2 h.y2))

pub rect_from : (r : Rect) → is_rect r ≡ true → IsRect r
rect_from r e = let both = and_parts (int_lt r.x1 r.x2) (int_lt r.y1 r.y2) e in record { wide = lt_from r.x1 r.x2 both.0; high = lt_from r.y1 r.y2 both.1 }

pub rect_to : (r : Rect) → IsRect r → is_rect r ≡ true
rect_to r h = and_from _ _ (lt_to r.x1 r.x2 h.wide) (lt_to r.y1 r.y2 h.high)

-- what lies in both ranges lies in the common one, and back
both_in : (a b c d s : ℤ) → is_between a s b ≡ true → is_between c s d ≡ true → is_between (int_max a c) s (int_min b d) ≡ true
both_in a b c d s f g =
    let x = in_range a b s f in let y = in_range c d s g in
    let x0 = x.0 in let x1 = x.1 in let y0 = y.0 in let y1 = y.1 in
    to_range (int_max a c) (int_min b d) s (omega (arith, ints, clamps)) (omega (arith, ints, clamps))

in_both : (a b c d s : ℤ) → is_between (int_max a c) s (int_min b d) ≡ true → (is_between a s b ≡ true) × (is_between c s d ≡ true)
in_both a b c d s e =
    let x = in_range (int_max a c) (int_min b d) s e in let x0 = x.0 in let x1 = x.1 in
    (to_range a b s (omega (arith, ints, clamps)) (omega (arith, ints, clamps)), to_range c d s (omega (arith, ints, clamps)) (omega (arith, ints, clamps)))

pub common_to : (a b : Rect) (s : Square) → has a s ≡ true → has b s ≡ true → has (common a b) s ≡ true
common_to a b s f g =
    let p = parts a s f in let q = parts b s g in
    and_from _ _ (both_in a.x1 a.x2 b.x1 b.x2 s.x p.0 q.0) (both_in a.y1 a.y2 b.y1 b.y2 s.y p.1 q.1)

pub common_from : (a b : Rect) (s : Square) → has (common a b) s ≡ true → (has a s ≡ true) × (has b s ≡ true)
common_from a b s e =
    let p = parts (common a b) s e in
    let x = in_both a.x1 a.x2 b.x1 b.x2 s.x p.0 in
    let y = in_both a.y1 a.y2 b.y1 b.y2 s.y p.1 in
    (and_from _ _ x.0 y.0, and_from _ _ x.1 y.1)

pub common_has : (a b : Rect) (s : Square) → has (common a b) s ≡ (has a s && has b s)
common_has a b s =
    same_truth (has (common a b) s) (has a s && has b s)
    (λ e. let p = common_from a b s e in and_from _ _ p.0 p.1)
    (λ e. let p = and_parts (has a s) (has b s) e in common_to a b s p.0 p.1)

pub least_box : (a b r : Rect) → IsInside a r → IsInside b r → IsInside (bounding_box a b) r
least_box a b r h g =
    let h1 = h.x1 in let h2 = h.y1 in let h3 = h.x2 in let h4 = h.y2 in
    let g1 = g.x1 in let g2 = g.y1 in let g3 = g.x2 in let g4 = g.y2 in
    record { x1 = omega (arith, ints, clamps); y1 = omega (arith, ints, clamps); x2 = omega (arith, ints, clamps); y2 = omega (arith, ints, clamps) }

pub in_grown : (n : ℕ) (r : Rect) → IsInside r (grown n r)
in_grown n r = record { x1 = omega (arith, ints); y1 = omega (arith, ints); x2 = omega (arith, ints); y2 = omega (arith, ints) }

pub rect_laws : RectLaws
rect_laws = record {
  meets_is = λ a b. (meets_share a b, share_meets a b);
  inside_has = inside_has;
  inside_is = λ a b. (inside_from a b, inside_to a b);
  rect_is = λ r. (rect_from r, rect_to r);
  common_has = common_has;
  box_first = in_left;
  box_second = in_right;
  box_least = least_box;
  grown_inside = in_grown;
}

pub common_first : (a b : Rect) → IsInside (common a b) a
common_first a b = record { x1 = omega (arith, ints, clamps); y1 = omega (arith, ints, clamps); x2 = omega (arith, ints, clamps); y2 = omega (arith, ints, clamps) }

pub common_second : (a b : Rect) → IsInside (common a b) b
common_second a b = record { x1 = omega (arith, ints, clamps); y1 = omega (arith, ints, clamps); x2 = omega (arith, ints, clamps); y2 = omega (arith, ints, clamps) }

-- what has a square is a rectangle
pub has_rect : (r : Rect) (s : Square) → has r s ≡ true → IsRect r
has_rect r s e =
    let p = parts r s e in
    let x = in_range r.x1 r.x2 s.x p.0 in
    let y = in_range r.y1 r.y2 s.y p.1 in
    let x0 = x.0 in let x1 = x.1 in let y0 = y.0 in let y1 = y.1 in
    record { wide = omega (arith, ints); high = omega (arith, ints) }

-- two rectangles whose common part is none share no square
pub none_shared : (a b : Rect) (s : Square) → is_rect (common a b) ≡ false → (has a s && has b s) ≡ false
none_shared a b s none =
    same_truth (has a s && has b s) false
    (λ e. absurd (not_both (is_rect (common a b)) (let p = and_parts (has a s) (has b s) e in rect_to (common a b) (has_rect (common a b) s (common_to a b s p.0 p.1))) none))
    (λ e. absurd (false≢true e))
