-- Spans of references: all images of a hull are the turned hull, moved by origins.
use Rattle.std.proofs.Common.{◌≡◌, ℕ, ◌^◌, ℤ, pos, ◌+ℤ◌, ◌-ℤ◌, ◌≤ℤ◌, sym, subst, arith}
use Rattle.std.specs.Int.{int_min, int_max}
use Rattle.std.proofs.lemmas.Int.{ints, clamps}
use Rattle.geo_base.specs.Motions.{turned}
use Rattle.geo_base.specs.Near.{IsWithin}
use Rattle.geo_base.specs.Rects.{moved_rect}
use Rattle.geo_base.specs.declared.motion.Motion.{Motion}
use Rattle.geo_base.specs.declared.motion.Turn.{Turn}
use Rattle.geo_base.specs.declared.motion.Turn.TheVariants.{R0, R90, R180, R270, M0, M90, M180, M270}
use Rattle.geo_base.specs.declared.shapes.Point.{Point}
use Rattle.geo_base.specs.declared.shapes.Rect.{Rect}
use Rattle.geo_base.proofs.Spans.{same_rect}
use Rattle.cell_graph.specs.declared.arrays.ElementOrigins.{ElementOrigins}
use Rattle.cell_graph.specs.declared.cells.Place.{Place}
use Rattle.cell_graph.specs.Arrays.{AreOriginsOf}
use Rattle.cell_graph.specs.Linked.{IsRectWithin, motion_at}
use Rattle.cell_graph.specs.Spans.{IsSpan, IsSwept}

negated : (z : ℤ) → IsWithin (2 ^ 36) z → IsWithin (2 ^ 36) (pos 0 -ℤ z)
negated z h = let l = h.low in let g = h.high in record { low = omega (arith, ints); high = omega (arith, ints) }

turned_near : (t : Turn) (p : Point) → IsWithin (2 ^ 36) p.x → IsWithin (2 ^ 36) p.y → IsWithin (2 ^ 36) (turned t p).x × IsWithin (2 ^ 36) (turned t p).y
turned_near R0 p x y = (x, y)
turned_near R90 p x y = (negated _ y, x)
turned_near R180 p x y = (negated _ x, negated _ y)
turned_near R270 p x y = (negated _ (negated _ y), negated _ x)
turned_near M0 p x y = (x, negated _ y)
turned_near M90 p x y = (negated _ (negated _ y), x)
turned_near M180 p x y = (negated _ x, negated _ (negated _ y))
turned_near M270 p x y = (negated _ (negated _ (negated _ y)), negated _ x)

least_near : (a b : ℤ) → IsWithin (2 ^ 36) a → IsWithin (2 ^ 36) b → IsWithin (2 ^ 36) (int_min (a +ℤ pos 0) (b +ℤ pos 0))
least_near a b h g =
    let hl = h.low in let hh = h.high in let gl = g.low in let gh = g.high in
    record { low = omega (arith, ints, clamps); high = omega (arith, ints, clamps) }

most_near : (a b : ℤ) → IsWithin (2 ^ 36) a → IsWithin (2 ^ 36) b → IsWithin (2 ^ 36) (int_max (a +ℤ pos 0) (b +ℤ pos 0))
most_near a b h g =
    let hl = h.low in let hh = h.high in let gl = g.low in let gh = g.high in
    record { low = omega (arith, ints, clamps); high = omega (arith, ints, clamps) }

-- the hull turned, and not moved yet
abbrev pub still : Turn → Motion
still turn = record { turn = turn; dx = pos 0; dy = pos 0 }

pub still_near : (turn : Turn) (h : Rect) → IsRectWithin (2 ^ 36) h → IsRectWithin (2 ^ 36) (moved_rect (still turn) h)
still_near turn h n =
    let a = turned_near turn (record { x = h.x1; y = h.y1 }) n.x1 n.y1 in
    let b = turned_near turn (record { x = h.x2; y = h.y2 }) n.x2 n.y2 in
    record { x1 = least_near _ _ a.0 b.0; y1 = least_near _ _ a.1 b.1; x2 = most_near _ _ a.0 b.0; y2 = most_near _ _ a.1 b.1 }

least_moved : (a b d : ℤ) → int_min (a +ℤ d) (b +ℤ d) ≡ int_min (a +ℤ pos 0) (b +ℤ pos 0) +ℤ d
least_moved a b d = omega (arith, ints, clamps)

most_moved : (a b d : ℤ) → int_max (a +ℤ d) (b +ℤ d) ≡ int_max (a +ℤ pos 0) (b +ℤ pos 0) +ℤ d
most_moved a b d = omega (arith, ints, clamps)

-- an image is the turned hull, moved
record IsMoved (m : Motion) (t r : Rect) : Type 0 where
  pub x1 : r.x1 ≡ t.x1 +ℤ m.dx
  pub y1 : r.y1 ≡ t.y1 +ℤ m.dy
  pub x2 : r.x2 ≡ t.x2 +ℤ m.dx
  pub y2 : r.y2 ≡ t.y2 +ℤ m.dy

image_moved : (m : Motion) (h : Rect) → IsMoved m (moved_rect (still m.turn) h) (moved_rect m h)
image_moved m h =
    let a = turned m.turn (record { x = h.x1; y = h.y1 }) in
    let b = turned m.turn (record { x = h.x2; y = h.y2 }) in
    record { x1 = least_moved a.x b.x m.dx; y1 = least_moved a.y b.y m.dy; x2 = most_moved a.x b.x m.dx; y2 = most_moved a.y b.y m.dy }

from_low : (r t o l s : ℤ) → r ≡ t +ℤ l → l ≤ℤ o → s ≡ t +ℤ o → r ≤ℤ s
from_low r t o l s e f g = omega (arith, ints)

to_high : (r t o l s : ℤ) → r ≡ t +ℤ l → o ≤ℤ l → s ≡ t +ℤ o → s ≤ℤ r
to_high r t o l s e f g = omega (arith, ints)

meets : (r t o l s : ℤ) → r ≡ t +ℤ l → o ≡ l → s ≡ t +ℤ o → s ≡ r
meets r t o l s e f g = omega (arith, ints)

pub span_is : (place : Place) (h t r : Rect) (o : ElementOrigins) → t ≡ moved_rect (still place.motion.turn) h → AreOriginsOf place o → IsSwept t o r → IsSpan place h r
span_is place h t r o e all is = record {
  holds = λ row column in_rows in_columns. (
      let x = all.x.holds row column in_rows in_columns in
      let y = all.y.holds row column in_rows in_columns in
      let m = motion_at place row column in
      let i = moved row column in
      record {
        x1 = from_low r.x1 t.x1 m.dx o.x.low (moved_rect m h).x1 is.x1 x.0 i.x1;
        y1 = from_low r.y1 t.y1 m.dy o.y.low (moved_rect m h).y1 is.y1 y.0 i.y1;
        x2 = to_high r.x2 t.x2 m.dx o.x.high (moved_rect m h).x2 is.x2 x.1 i.x2;
        y2 = to_high r.y2 t.y2 m.dy o.y.high (moved_rect m h).y2 is.y2 y.1 i.y2;
      });
  left = (let f = all.x.low in (f.0, f.1, f.2, f.3, meets r.x1 t.x1 (motion_at place f.0 f.1).dx o.x.low (moved_rect (motion_at place f.0 f.1) h).x1 is.x1 f.4 (moved f.0 f.1).x1));
  low = (let f = all.y.low in (f.0, f.1, f.2, f.3, meets r.y1 t.y1 (motion_at place f.0 f.1).dy o.y.low (moved_rect (motion_at place f.0 f.1) h).y1 is.y1 f.4 (moved f.0 f.1).y1));
  right = (let f = all.x.high in (f.0, f.1, f.2, f.3, meets r.x2 t.x2 (motion_at place f.0 f.1).dx o.x.high (moved_rect (motion_at place f.0 f.1) h).x2 is.x2 f.4 (moved f.0 f.1).x2));
  high = (let f = all.y.high in (f.0, f.1, f.2, f.3, meets r.y2 t.y2 (motion_at place f.0 f.1).dy o.y.high (moved_rect (motion_at place f.0 f.1) h).y2 is.y2 f.4 (moved f.0 f.1).y2));
}
  where
    moved : (row column : ℕ) → IsMoved (motion_at place row column) t (moved_rect (motion_at place row column) h)
    moved row column = subst (λ t. IsMoved (motion_at place row column) t (moved_rect (motion_at place row column) h)) (sym e) (image_moved (motion_at place row column) h)

-- there is one span
both_ways : (a b i j : ℤ) → i ≡ a → b ≤ℤ i → j ≡ b → a ≤ℤ j → a ≡ b
both_ways a b i j e f g h = omega (arith, ints)

both_ways_up : (a b i j : ℤ) → i ≡ a → i ≤ℤ b → j ≡ b → j ≤ℤ a → a ≡ b
both_ways_up a b i j e f g h = omega (arith, ints)

pub one_span : (place : Place) (h r s : Rect) → IsSpan place h r → IsSpan place h s → r ≡ s
one_span place h r s a b = same_rect r s
    (let f = a.left in let g = b.left in both_ways r.x1 s.x1 _ _ f.4 (b.holds f.0 f.1 f.2 f.3).x1 g.4 (a.holds g.0 g.1 g.2 g.3).x1)
    (let f = a.low in let g = b.low in both_ways r.y1 s.y1 _ _ f.4 (b.holds f.0 f.1 f.2 f.3).y1 g.4 (a.holds g.0 g.1 g.2 g.3).y1)
    (let f = a.right in let g = b.right in both_ways_up r.x2 s.x2 _ _ f.4 (b.holds f.0 f.1 f.2 f.3).x2 g.4 (a.holds g.0 g.1 g.2 g.3).x2)
    (let f = a.high in let g = b.high in both_ways_up r.y2 s.y2 _ _ f.4 (b.holds f.0 f.1 f.2 f.3).y2 g.4 (a.holds g.0 g.1 g.2 g.3).y2)
