-- Sets in a cell's grown hull lie near.
use Rattle.std.proofs.Common.{◌≡◌, inl, inr, ℕ, zero, suc, ◌+◌, ◌<◌, ◌≤◌, ◌^◌, ◌-ℤ◌, ℤ, pos, negsuc, unsigned_abs, true, false, List, [], ◌∷◌, Option, Some, None, arith, length, slice_index_or}
use Rattle.std.specs.List.{All}
use Rattle.std.proofs.lemmas.Bool.{or_left, or_right}
use Rattle.std.proofs.lemmas.Int.{ints}
use Rattle.geo_base.specs.Rects.{has, IsRect, grown}
use Rattle.geo_base.specs.declared.shapes.Rect.{Rect}
use Rattle.geo_base.specs.declared.shapes.Square.{Square}
use Rattle.rect_sets.specs.Rects.{covers}
use Rattle.cell_graph.specs.Grown.{IsInGrown}
use Rattle.cell_graph.specs.Linked.{Linked, HullIsSound, IsRectWithin, IsSound, cell_at, hull_of}
use Rattle.cell_graph.proofs.Bridge.{has_in, in_has, hull_sound}
use Rattle.cell_graph.proofs.Growing.{grown_frame}
use Rattle.sized_layers.specs.Sizes.{IsSetWithin, IsSize, IsSquareWithin, growth}

-- a set that a rectangle holds lies as near as that
set_within : (m : ℕ) (w : Rect) (set : List Rect) → IsRectWithin m w → ((q : Square) → covers set q ≡ true → has w q ≡ true) → IsSetWithin m set
set_within m w set near h q e =
    let i = has_in w q (h q e) in let i0 = i.0 in let i1 = i.1 in let i2 = i.2 in let i3 = i.3 in
    let a = near.x1.low in let b = near.x2.high in let c = near.y1.low in let d = near.y2.high in
    record { left = omega (arith, ints); right = omega (arith, ints); low = omega (arith, ints); high = omega (arith, ints) }

pub wider_set : (m n : ℕ) (set : List Rect) → m ≤ n → IsSetWithin m set → IsSetWithin n set
wider_set m n set le h q e =
    let s = h q e in let a = s.left in let b = s.right in let c = s.low in let d = s.high in
    record { left = omega (arith, ints); right = omega (arith, ints); low = omega (arith, ints); high = omega (arith, ints) }

-- a set in a grown hull lies near
pub held_near : (n : ℕ) (d : Linked) (cell : ℕ) (set : List Rect) → IsSound d → n ≤ 20001 → ((q : Square) → covers set q ≡ true → IsInGrown n (hull_of (cell_at d cell)) q) → IsSetWithin (2 ^ 37) set
held_near n d cell set sound most h = by (hull_of (cell_at d cell)) (hull_sound d cell sound) h
  where
    by : (o : Option Rect) → HullIsSound o → ((q : Square) → covers set q ≡ true → IsInGrown n o q) → IsSetWithin (2 ^ 37) set
    by None hull held = λ q e. absurd (held q e)
    by (Some w) hull held = set_within (2 ^ 37) (grown n w) set (grown_frame n w most hull).near held

listed_has : (rects : List Rect) (k : ℕ) (r : Rect) (q : Square) → k < length rects → has (slice_index_or rects k r) q ≡ true → covers rects q ≡ true
listed_has [] k r q lt e = absurd (let z : ⊥ = omega arith in z)
listed_has (x ∷ xs) zero r q lt e = or_left (has x q) (covers xs q) e
listed_has (x ∷ xs) (suc k) r q lt e = or_right (has x q) (covers xs q) (listed_has xs k r q (omega arith) e)

-- the corners of a rectangle tell how far it reaches
corners : (m : ℕ) (r : Rect) → IsRect r → ((q : Square) → has r q ≡ true → IsSquareWithin m q) → IsRectWithin m r
corners m r some h =
    let wide = some.wide in let high = some.high in
    let low : Square = record { x = r.x1; y = r.y1 } in
    let top : Square = record { x = r.x2 -ℤ pos 1; y = r.y2 -ℤ pos 1 } in
    let a = h low (in_has r low ((omega (arith, ints)), (omega (arith, ints)), (omega (arith, ints)), (omega (arith, ints)))) in
    let b = h top (in_has r top ((omega (arith, ints)), (omega (arith, ints)), (omega (arith, ints)), (omega (arith, ints)))) in
    let a1 = a.left in let a2 = a.right in let a3 = a.low in let a4 = a.high in
    let b1 = b.left in let b2 = b.right in let b3 = b.low in let b4 = b.high in
    record {
      x1 = record { low = omega (arith, ints); high = omega (arith, ints) };
      y1 = record { low = omega (arith, ints); high = omega (arith, ints) };
      x2 = record { low = omega (arith, ints); high = omega (arith, ints) };
      y2 = record { low = omega (arith, ints); high = omega (arith, ints) };
    }

-- the rectangles of a set reach no further than its squares
pub rects_within : (m : ℕ) (rs : List Rect) → All IsRect rs → IsSetWithin m rs → All (IsRectWithin m) rs
rects_within m rs some h = λ k r lt. corners m (slice_index_or rs k r) (some k r lt) (λ q e. h q (listed_has rs k r q lt e))

-- how far a layer may be sized, by how far the name reaches
pub is_size : (by : ℤ) (n : ℕ) → n + unsigned_abs by ≤ 10000 → IsSize by
is_size (pos k) n le = record { low = omega (arith, ints); high = omega (arith, ints) }
is_size (negsuc k) n le = record { low = omega (arith, ints); high = omega (arith, ints) }

pub growth_most : (by : ℤ) → growth by ≤ unsigned_abs by
growth_most (pos n) = omega arith
growth_most (negsuc n) = omega arith
