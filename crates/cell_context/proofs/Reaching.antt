-- Between which numbers the shifts of those elements lie whose images meet a window.
use Rattle.std.proofs.Common.{◌≡◌, ℕ, ℤ, pos, ◌*◌, ◌+ℤ◌, ◌-ℤ◌, ◌*ℤ◌, ◌<ℤ◌, ◌≤ℤ◌, ◌<◌, ◌^◌, true, refl, sym, ◌∙◌, subst, arith}
use Rattle.std.specs.Int.{int_min, int_max}
use Rattle.std.proofs.lemmas.Int.{ints}
use Rattle.geo_base.specs.Near.{IsWithin}
use Rattle.geo_base.specs.Motions.{turned, turned_x, turned_y, moved_square, moved_point}
use Rattle.geo_base.specs.Rects.{has, IsRect, moved_rect}
use Rattle.geo_base.proofs.Spans.{moved_rect-has}
use Rattle.geo_base.specs.declared.motion.Turn.{Turn}
use Rattle.geo_base.specs.declared.motion.Turn.TheVariants.{R0, R90, R180, R270, M0, M90, M180, M270}
use Rattle.geo_base.specs.declared.motion.Motion.{Motion}
use Rattle.geo_base.specs.declared.shapes.Point.{Point}
use Rattle.geo_base.specs.declared.shapes.Rect.{Rect}
use Rattle.geo_base.specs.declared.shapes.Square.{Square}
use Rattle.cell_graph.specs.declared.cells.Place.{Place}
use Rattle.cell_graph.specs.Linked.{IsFrame, IsRectWithin, motion_at}
use Rattle.cell_graph.proofs.Bridge.{has_in}
use Rattle.cell_context.specs.Arrays.{turn_of, shift_x, shift_y, IsReach, IsCloseArray}
use Rattle.cell_context.specs.declared.arrays.Reach.{Reach}

kept : (n : ℕ) (z : ℤ) → IsWithin n z → IsWithin n (z +ℤ pos 0)
kept n z h = let l = h.low in let u = h.high in record { low = omega (arith, ints); high = omega (arith, ints) }

faced : (n : ℕ) (z : ℤ) → IsWithin n z → IsWithin n ((pos 0 -ℤ z) +ℤ pos 0)
faced n z h = let l = h.low in let u = h.high in record { low = omega (arith, ints); high = omega (arith, ints) }

twice : (n : ℕ) (z : ℤ) → IsWithin n z → IsWithin n ((pos 0 -ℤ (pos 0 -ℤ z)) +ℤ pos 0)
twice n z h = let l = h.low in let u = h.high in record { low = omega (arith, ints); high = omega (arith, ints) }

thrice : (n : ℕ) (z : ℤ) → IsWithin n z → IsWithin n ((pos 0 -ℤ (pos 0 -ℤ (pos 0 -ℤ z))) +ℤ pos 0)
thrice n z h = let l = h.low in let u = h.high in record { low = omega (arith, ints); high = omega (arith, ints) }

record IsPointWithin (n : ℕ) (p : Point) : Type 0 where
  x : IsWithin n p.x
  y : IsWithin n p.y

abbrev turn_alone : Turn → Motion
turn_alone t = record { turn = t; dx = pos 0; dy = pos 0 }

point_within : (n : ℕ) (t : Turn) (p : Point) → IsPointWithin n p → IsPointWithin n (moved_point (turn_alone t) p)
point_within n R0 p h = record { x = kept n p.x h.x; y = kept n p.y h.y }
point_within n R90 p h = record { x = faced n p.y h.y; y = kept n p.x h.x }
point_within n R180 p h = record { x = faced n p.x h.x; y = faced n p.y h.y }
point_within n R270 p h = record { x = twice n p.y h.y; y = faced n p.x h.x }
point_within n M0 p h = record { x = kept n p.x h.x; y = faced n p.y h.y }
point_within n M90 p h = record { x = twice n p.y h.y; y = kept n p.x h.x }
point_within n M180 p h = record { x = faced n p.x h.x; y = twice n p.y h.y }
point_within n M270 p h = record { x = thrice n p.y h.y; y = faced n p.x h.x }

min_within : (n : ℕ) (a b : ℤ) → IsWithin n a → IsWithin n b → IsWithin n (int_min a b)
min_within n a b h g = let l = h.low in let u = h.high in let l' = g.low in let u' = g.high in record { low = grind (arith, ints); high = grind (arith, ints) }

max_within : (n : ℕ) (a b : ℤ) → IsWithin n a → IsWithin n b → IsWithin n (int_max a b)
max_within n a b h g = let l = h.low in let u = h.high in let l' = g.low in let u' = g.high in record { low = grind (arith, ints); high = grind (arith, ints) }

pub turned_within : (n : ℕ) (t : Turn) (r : Rect) → IsRectWithin n r → let m : Motion = record { turn = t; dx = pos 0; dy = pos 0 } in IsRectWithin n (moved_rect m r)
turned_within n t r h =
    let low : Point = record { x = r.x1; y = r.y1 } in let high : Point = record { x = r.x2; y = r.y2 } in
    let a = point_within n t low (record { x = h.x1; y = h.y1 }) in let b = point_within n t high (record { x = h.x2; y = h.y2 }) in
    let p = moved_point (turn_alone t) low in let q = moved_point (turn_alone t) high in
    record { x1 = min_within n p.x q.x a.x b.x; y1 = min_within n p.y q.y a.y b.y; x2 = max_within n p.x q.x a.x b.x; y2 = max_within n p.y q.y a.y b.y }

pub record IsShifted (p : Place) (t w : Rect) (row column : ℕ) : Type 0 where
  pub x_low : (w.x1 -ℤ t.x2) <ℤ shift_x p row column
  pub x_high : shift_x p row column <ℤ (w.x2 -ℤ t.x1)
  pub y_low : (w.y1 -ℤ t.y2) <ℤ shift_y p row column
  pub y_high : shift_y p row column <ℤ (w.y2 -ℤ t.y1)

pub shifted : (p : Place) (hull w t : Rect) (row column : ℕ) (q : Square) → IsRect hull → t ≡ moved_rect (turn_of p) hull → has hull q ≡ true → has w (moved_square (motion_at p row column) q) ≡ true → IsShifted p t w row column
shifted p hull w t row column q some e h g =
    let there = subst (λ r. has r (moved_square (turn_of p) q) ≡ true) (sym e) (moved_rect-has (turn_of p) hull q some ∙ h) in
    let b = between t w (turned_x p.motion.turn q.x q.y) (turned_y p.motion.turn q.x q.y) (shift_x p row column) (shift_y p row column) (has_in t _ there) (has_in w _ g) in
    record { x_low = b.0; x_high = b.1; y_low = b.2; y_high = b.3 }
  where
    between : (t w : Rect) (x y a b : ℤ) → (t.x1 ≤ℤ (x +ℤ pos 0)) × ((x +ℤ pos 0) <ℤ t.x2) × (t.y1 ≤ℤ (y +ℤ pos 0)) × ((y +ℤ pos 0) <ℤ t.y2)
        → (w.x1 ≤ℤ (x +ℤ a)) × ((x +ℤ a) <ℤ w.x2) × (w.y1 ≤ℤ (y +ℤ b)) × ((y +ℤ b) <ℤ w.y2)
        → ((w.x1 -ℤ t.x2) <ℤ a) × (a <ℤ (w.x2 -ℤ t.x1)) × ((w.y1 -ℤ t.y2) <ℤ b) × (b <ℤ (w.y2 -ℤ t.y1))
    between t w x y a b (t1, t2, t3, t4) (w1, w2, w3, w4) = ((omega (arith, ints)), (omega (arith, ints)), (omega (arith, ints)), (omega (arith, ints)))

far : (n1 n2 : ℤ) → IsWithin (2 ^ 39) n1 → IsWithin (2 ^ 37) n2 → IsWithin (2 ^ 41) (n1 -ℤ n2)
far n1 n2 h g = let l = h.low in let u = h.high in let l' = g.low in let u' = g.high in record { low = omega (arith, ints); high = omega (arith, ints) }

pub is_reach : (p : Place) (hull w t : Rect) (r : Reach) → IsFrame hull → IsRectWithin (2 ^ 39) w → IsRectWithin (2 ^ 37) t → t ≡ moved_rect (turn_of p) hull
    → r.x_low ≡ w.x1 -ℤ t.x2 → r.x_high ≡ w.x2 -ℤ t.x1 → r.y_low ≡ w.y1 -ℤ t.y2 → r.y_high ≡ w.y2 -ℤ t.y1 → IsReach p hull w r
is_reach p hull w t r h g near e a b c d = record {
  near = record {
    x_low = subst (IsWithin (2 ^ 41)) (sym a) (far w.x1 t.x2 g.x1 near.x2);
    x_high = subst (IsWithin (2 ^ 41)) (sym b) (far w.x2 t.x1 g.x2 near.x1);
    y_low = subst (IsWithin (2 ^ 41)) (sym c) (far w.y1 t.y2 g.y1 near.y2);
    y_high = subst (IsWithin (2 ^ 41)) (sym d) (far w.y2 t.y1 g.y2 near.y1);
  };
  all = λ row column q i j.
      let s = shifted p hull w t row column q h.some e i j in
      record {
        x_low = subst (λ z. z <ℤ shift_x p row column) (sym a) s.x_low;
        x_high = subst (λ z. shift_x p row column <ℤ z) (sym b) s.x_high;
        y_low = subst (λ z. z <ℤ shift_y p row column) (sym c) s.y_low;
        y_high = subst (λ z. shift_y p row column <ℤ z) (sym d) s.y_high;
      };
}

-- a shift added
shifted_within : (z s : ℤ) → IsWithin (2 ^ 37) (z +ℤ pos 0) → IsWithin (5 * 2 ^ 36) s → IsWithin (2 ^ 39) (z +ℤ s)
shifted_within z s h g = let l = h.low in let u = h.high in let l' = g.low in let u' = g.high in record { low = omega (arith, ints); high = omega (arith, ints) }

moved_point_within : (m : Motion) (p : Point) → IsWithin (5 * 2 ^ 36) m.dx → IsWithin (5 * 2 ^ 36) m.dy → IsPointWithin (2 ^ 37) p → IsPointWithin (2 ^ 39) (moved_point m p)
moved_point_within m p dx dy h =
    let t = point_within (2 ^ 37) m.turn p h in
    record { x = shifted_within (turned m.turn p).x m.dx t.x dx; y = shifted_within (turned m.turn p).y m.dy t.y dy }

-- the image of a hull is near
pub moved_within : (m : Motion) (r : Rect) → IsWithin (5 * 2 ^ 36) m.dx → IsWithin (5 * 2 ^ 36) m.dy → IsRectWithin (2 ^ 37) r → IsRectWithin (2 ^ 39) (moved_rect m r)
moved_within m r dx dy h =
    let low : Point = record { x = r.x1; y = r.y1 } in let high : Point = record { x = r.x2; y = r.y2 } in
    let a = moved_point_within m low dx dy (record { x = h.x1; y = h.y1 }) in let b = moved_point_within m high dx dy (record { x = h.x2; y = h.y2 }) in
    let p = moved_point m low in let q = moved_point m high in
    let n = 2 ^ 39 in
    record { x1 = min_within n p.x q.x a.x b.x; y1 = min_within n p.y q.y a.y b.y; x2 = max_within n p.x q.x a.x b.x; y2 = max_within n p.y q.y a.y b.y }

shift_near : (a b c z : ℤ) → IsWithin (2 ^ 36) a → IsWithin (2 ^ 37) b → IsWithin (2 ^ 37) c → z ≡ (a +ℤ b) +ℤ c → IsWithin (5 * 2 ^ 36) z
shift_near a b c z h g f e = let h1 = h.low in let h2 = h.high in let g1 = g.low in let g2 = g.high in let f1 = f.low in let f2 = f.high in record { low = omega (arith, ints); high = omega (arith, ints) }

pub element_within : (p : Place) (row column : ℕ) (r : Rect) → IsCloseArray p → row < p.rows → column < p.columns → IsRectWithin (2 ^ 37) r → IsRectWithin (2 ^ 39) (moved_rect (motion_at p row column) r)
element_within p row column r near a b h = moved_within (motion_at p row column) r
    (shift_near p.motion.dx (pos column *ℤ p.column_step.x) (pos row *ℤ p.row_step.x) (shift_x p row column) near.dx (near.column_x column b) (near.row_x row a) refl)
    (shift_near p.motion.dy (pos column *ℤ p.column_step.y) (pos row *ℤ p.row_step.y) (shift_y p row column) near.dy (near.column_y column b) (near.row_y row a) refl)
    h
