-- Rectangles in windows, and under motions.
use Rattle.std.proofs.Common.{◌≡◌, ℤ, pos, ◌-ℤ◌, ◌≤ℤ◌, ◌<ℤ◌, int_le, int_lt, true, ◌&&◌, Option, Some, None, IfSome, IfNone, sym, ◌∙◌, subst, arith}
use Rattle.base_laws.proofs.Tests.{lt_from, lt_to, le_from, le_to}
use Rattle.std.specs.Int.{int_min, int_max}
use Rattle.std.proofs.lemmas.Int.{ints}
use Rattle.std.proofs.lemmas.Bool.{and_parts, and_from}
use Rattle.flat_laws.proofs.Moves.{onto}
use Rattle.flat_layout.specs.Plane.{IsIn}
use Rattle.geo_base.specs.Motions.{moved_square}
use Rattle.geo_base.specs.Near.{IsNear, IsNearRect}
use Rattle.geo_base.specs.Rects.{is_between, has, IsRect, common}
use Rattle.geo_base.specs.declared.motion.Motion.{Motion}
use Rattle.geo_base.specs.declared.shapes.Rect.{Rect}
use Rattle.geo_base.specs.declared.shapes.Square.{Square}
use Rattle.net_walk.specs.Walk.{IsInside, IsPartIn}

pub in_of : (r : Rect) (s : Square) → has r s ≡ true → IsIn s r
in_of r s e =
    let h = and_parts (is_between r.x1 s.x r.x2) (is_between r.y1 s.y r.y2) e in
    let x = and_parts (int_le r.x1 s.x) (int_lt s.x r.x2) h.0 in
    let y = and_parts (int_le r.y1 s.y) (int_lt s.y r.y2) h.1 in
    (le_from r.x1 s.x x.0, lt_from s.x r.x2 x.1, le_from r.y1 s.y y.0, lt_from s.y r.y2 y.1)

pub in_to : (r : Rect) (s : Square) → IsIn s r → has r s ≡ true
in_to r s (a, b, c, e) =
    and_from (is_between r.x1 s.x r.x2) (is_between r.y1 s.y r.y2) (and_from (int_le r.x1 s.x) (int_lt s.x r.x2) (le_to r.x1 s.x a) (lt_to s.x r.x2 b)) (and_from (int_le r.y1 s.y) (int_lt s.y r.y2) (le_to r.y1 s.y c) (lt_to s.y r.y2 e))

pub rect_test : (r : Rect) → (int_lt r.x1 r.x2 && int_lt r.y1 r.y2) ≡ true → IsRect r
rect_test r e = let h = and_parts (int_lt r.x1 r.x2) (int_lt r.y1 r.y2) e in record { wide = lt_from r.x1 r.x2 h.0; high = lt_from r.y1 r.y2 h.1 }

max_left : (a b : ℤ) → a ≤ℤ int_max a b
max_left a b = grind (arith, ints)

max_right : (a b : ℤ) → b ≤ℤ int_max a b
max_right a b = grind (arith, ints)

min_left : (a b : ℤ) → int_min a b ≤ℤ a
min_left a b = grind (arith, ints)

min_right : (a b : ℤ) → int_min a b ≤ℤ b
min_right a b = grind (arith, ints)

over_max : (a b x : ℤ) → a ≤ℤ x → b ≤ℤ x → int_max a b ≤ℤ x
over_max a b x h g = grind (arith, ints)

under_min : (a b x : ℤ) → x <ℤ a → x <ℤ b → x <ℤ int_min a b
under_min a b x h g = grind (arith, ints)

pub in_common : (r s : Rect) (p : Square) → IsIn p r → IsIn p s → IsIn p (common r s)
in_common r s p h g = (over_max r.x1 s.x1 p.x h.0 g.0, under_min r.x2 s.x2 p.x h.1 g.1, over_max r.y1 s.y1 p.y h.2 g.2, under_min r.y2 s.y2 p.y h.3 g.3)

pub common_in : (r s : Rect) (p : Square) → IsIn p (common r s) → IsIn p r × IsIn p s
common_in r s p (a, b, c, e) =
    let x = max_left r.x1 s.x1 in
    let x' = max_right r.x1 s.x1 in
    let z = min_left r.x2 s.x2 in
    let z' = min_right r.x2 s.x2 in
    let y = max_left r.y1 s.y1 in
    let y' = max_right r.y1 s.y1 in
    let u = min_left r.y2 s.y2 in
    let u' = min_right r.y2 s.y2 in
    ((omega (arith, ints), omega (arith, ints), omega (arith, ints), omega (arith, ints)), (omega (arith, ints), omega (arith, ints), omega (arith, ints), omega (arith, ints)))

pub rect_of : (r : Rect) (p : Square) → IsIn p r → IsRect r
rect_of r p (a, b, c, e) = record { wide = omega (arith, ints); high = omega (arith, ints) }

pub common_inside : (r w : Rect) → IsRect (common r w) → IsInside (common r w) w
common_inside r w h = record { rect = h; x1 = max_right r.x1 w.x1; x2 = min_right r.x2 w.x2; y1 = max_right r.y1 w.y1; y2 = min_right r.y2 w.y2 }

corners_in : (r w : Rect) → IsRect r → IsIn (record { x = r.x1; y = r.y1 }) w → IsIn (record { x = r.x2 -ℤ pos 1; y = r.y2 -ℤ pos 1 }) w → IsInside r w
corners_in r w h (a, b, c, e) (a', b', c', e') = record { rect = h; x1 = a; x2 = omega (arith, ints); y1 = c; y2 = omega (arith, ints) }

pub all_in : (r w : Rect) → IsRect r → ((q : Square) → IsIn q r → IsIn q w) → IsInside r w
all_in r w h f =
    let wide = h.wide in
    let high = h.high in
    let p : Square = record { x = r.x1; y = r.y1 } in
    let q : Square = record { x = r.x2 -ℤ pos 1; y = r.y2 -ℤ pos 1 } in
    let first : IsIn p r = (omega (arith, ints), wide, omega (arith, ints), high) in
    let last : IsIn q r = (omega (arith, ints), omega (arith, ints), omega (arith, ints), omega (arith, ints)) in
    corners_in r w h (f p first) (f q last)

between : (a b c d n : ℤ) → a ≤ℤ b → b <ℤ c → c ≤ℤ d → IsNear a → IsNear d → IsNear b × IsNear c
between a b c d n h g k na nd =
    let l = na.low in
    let u = nd.high in
    (record { low = omega (arith, ints); high = omega (arith, ints) }, record { low = omega (arith, ints); high = omega (arith, ints) })

pub near_inside : (r w : Rect) → IsInside r w → IsNearRect w → IsNearRect r
near_inside r w h n =
    let x = between w.x1 r.x1 r.x2 w.x2 (pos 0) h.x1 h.rect.wide h.x2 n.x1 n.x2 in
    let y = between w.y1 r.y1 r.y2 w.y2 (pos 0) h.y1 h.rect.high h.y2 n.y1 n.y2 in
    record { x1 = x.0; y1 = y.0; x2 = x.1; y2 = y.1 }

pub in_inside : (r w : Rect) (q : Square) → IsInside r w → IsIn q r → IsIn q w
in_inside r w q h (a, b, c, e) =
    let x1 = h.x1 in let x2 = h.x2 in let y1 = h.y1 in let y2 = h.y2 in
    (omega (arith, ints), omega (arith, ints), omega (arith, ints), omega (arith, ints))

-- the image of a rectangle
module _ (m : Motion) (r image : Rect) (same : (s : Square) → has image (moved_square m s) ≡ has r s) where
  pub moved_in : (s : Square) → IsIn s r → IsIn (moved_square m s) image
  moved_in s h = in_of image (moved_square m s) (same s ∙ in_to r s h)

  pub unmoved_in : (s : Square) → IsIn (moved_square m s) image → IsIn s r
  unmoved_in s h = in_of r s (sym (same s) ∙ in_to image (moved_square m s) h)

  pub from_in : (q : Square) → IsIn q image → (s : Square) × IsIn s r × (moved_square m s ≡ q)
  from_in q h = let f = onto m q in (f.0, unmoved_in f.0 (subst (λ (v : Square). IsIn v image) (sym f.1) h), f.1)

-- what a motion brings into the window, taken back
module _ (m o : Motion) (hull span window inner : Rect) (back : (s : Square) → moved_square o (moved_square m s) ≡ s) (there : (s : Square) → has span (moved_square m s) ≡ has hull s)
    (again : (s : Square) → has inner (moved_square o s) ≡ has (common span window) s) where
  out_of : (s : Square) → IsIn s inner → IsIn (moved_square m s) (common span window)
  out_of s h = unmoved_in o (common span window) inner again (moved_square m s) (subst (λ (v : Square). IsIn v inner) (sym (back s)) h)

  pub part_in : IsRect inner → IsNearRect hull → IsPartIn hull m window inner
  part_in is near =
      let inside : IsInside inner hull = all_in inner hull is (λ s h. unmoved_in m hull span there s (common_in span window (moved_square m s) (out_of s h)).0) in
      record {
        rect = is;
        near = near_inside inner hull inside near;
        inside = λ s h. (common_in span window (moved_square m s) (out_of s h)).1;
        all = λ s h g. subst (λ (v : Square). IsIn v inner) (back s) (moved_in o (common span window) inner again (moved_square m s) (in_common span window (moved_square m s) (moved_in m hull span there s h) g));
      }

pub no_part : (m : Motion) (hull span window : Rect) → ((s : Square) → has span (moved_square m s) ≡ has hull s) → (IsRect (common span window) → ⊥) → (s : Square) → IsIn s hull → IsIn (moved_square m s) window → ⊥
no_part m hull span window there not s h g =
    let q = moved_square m s in
    not (rect_of (common span window) q (in_common span window q (moved_in m hull span there s h) g))

pub some_weaker : {T : Type 0} (o : Option T) (P Q : T → Type 0) → ((x : T) → P x → Q x) → IfSome o P → IfSome o Q
some_weaker None P Q f h = h
some_weaker (Some x) P Q f h = f x h

pub none_weaker : {T : Type 0} (o : Option T) (P Q : Type 0) → (P → Q) → IfNone o P → IfNone o Q
none_weaker None P Q f h = f h
none_weaker (Some x) P Q f h = h
