-- Grown hulls, and what a placement makes of them.
use Rattle.std.proofs.Common.{◌≡◌, ◌↔◌, ℕ, ℤ, pos, ◌+◌, ◌<◌, ◌≤◌, ◌^◌, ◌+ℤ◌, ◌-ℤ◌, ◌≤ℤ◌, ◌<ℤ◌, true, Option, Some, None, arith}
use Rattle.std.proofs.lemmas.Int.{ints, by_lt_z}
use Rattle.geo_base.specs.Motions.{moved_square}
use Rattle.geo_base.specs.Near.{IsWithin}
use Rattle.geo_base.specs.Rects.{has, IsRect, grown}
use Rattle.geo_base.specs.declared.shapes.Rect.{Rect}
use Rattle.geo_base.specs.declared.shapes.Square.{Square}
use Rattle.flat_layout.specs.Plane.{AreWithin}
use Rattle.flat_laws.proofs.Moves.{withins}
use Rattle.cell_graph.specs.declared.cells.Place.{Place}
use Rattle.cell_graph.specs.Grown.{IsInGrown}
use Rattle.cell_graph.specs.Linked.{Linked, IsFrame, IsHull, IsSound, IsStep, HullHas, HullIsSound, motion_at, hull_of, cell_at}
use Rattle.cell_graph.proofs.Bridge.{has_in, in_has, step_held, hull_sound}

less : (n : ℕ) (z : ℤ) → n ≤ 20001 → IsWithin (2 ^ 36) z → IsWithin (2 ^ 37) (z -ℤ pos n)
less n z most h = let l = h.low in let u = h.high in record { low = omega (arith, ints); high = omega (arith, ints) }

more : (n : ℕ) (z : ℤ) → n ≤ 20001 → IsWithin (2 ^ 36) z → IsWithin (2 ^ 37) (z +ℤ pos n)
more n z most h = let l = h.low in let u = h.high in record { low = omega (arith, ints); high = omega (arith, ints) }

-- a grown hull is a frame
pub grown_frame : (n : ℕ) (h : Rect) → n ≤ 20001 → IsHull h → IsFrame (grown n h)
grown_frame n h most s = let w = s.some.wide in let u = s.some.high in record {
  some = record { wide = omega (arith, ints); high = omega (arith, ints) };
  near = record { x1 = less n h.x1 most s.near.x1; y1 = less n h.y1 most s.near.y1; x2 = more n h.x2 most s.near.x2; y2 = more n h.y2 most s.near.y2 };
}

-- a number within n steps of a range is within n steps of a number of it
near_number : (n : ℕ) (a b x : ℤ) → a <ℤ b → (a -ℤ pos n) ≤ℤ x → x <ℤ (b +ℤ pos n) → (y : ℤ) × (a ≤ℤ y) × (y <ℤ b) × (y ≤ℤ (x +ℤ pos n)) × (x ≤ℤ (y +ℤ pos n))
near_number n a b x lt low high = by_lt_z x a
    (λ l. (a, (omega (arith, ints)), (omega (arith, ints)), (omega (arith, ints)), (omega (arith, ints))))
    (λ l. by_lt_z x b
    (λ m. (x, l, m, (omega (arith, ints)), (omega (arith, ints))))
    (λ m. (b -ℤ pos 1, (omega (arith, ints)), (omega (arith, ints)), (omega (arith, ints)), (omega (arith, ints)))))

-- a square of a grown rectangle lies near one of the rectangle
pub near_rect : (n : ℕ) (r : Rect) (q : Square) → IsRect r → has (grown n r) q ≡ true → (s : Square) × (has r s ≡ true) × AreWithin n q s
near_rect n r q some h =
    let i = has_in (grown n r) q h in
    let x = near_number n r.x1 r.x2 q.x some.wide i.0 i.1 in
    let y = near_number n r.y1 r.y2 q.y some.high i.2 i.3 in
    let s : Square = record { x = x.0; y = y.0 } in
    (s, in_has r s (x.1, x.2, y.1, y.2), record { left = x.3; right = x.4; low = y.3; high = y.4 })

-- and so of a hull
pub near_square : (n : ℕ) (o : Option Rect) (q : Square) → HullIsSound o → IsInGrown n o q → (s : Square) × HullHas o s × AreWithin n q s
near_square n None q sound h = absurd h
near_square n (Some r) q sound h = near_rect n r q sound.some h

pub within_rect : (n : ℕ) (r : Rect) (q s : Square) → has r s ≡ true → AreWithin n q s → has (grown n r) q ≡ true
within_rect n r q s h a =
    let i = has_in r s h in let i0 = i.0 in let i1 = i.1 in let i2 = i.2 in let i3 = i.3 in
    let l = a.left in let t = a.right in let b = a.low in let u = a.high in
    in_has (grown n r) q ((omega (arith, ints)), (omega (arith, ints)), (omega (arith, ints)), (omega (arith, ints)))

pub within_grown : (n : ℕ) (o : Option Rect) (q s : Square) → HullHas o s → AreWithin n q s → IsInGrown n o q
within_grown n None q s h a = h
within_grown n (Some r) q s h a = within_rect n r q s h a

-- of two grown hulls the wider has the other's squares
pub wider_grown : (m n : ℕ) (o : Option Rect) (q : Square) → m ≤ n → IsInGrown m o q → IsInGrown n o q
wider_grown m n None q le h = h
wider_grown m n (Some r) q le h =
    let i = has_in (grown m r) q h in let i0 = i.0 in let i1 = i.1 in let i2 = i.2 in let i3 = i.3 in
    in_has (grown n r) q ((omega (arith, ints)), (omega (arith, ints)), (omega (arith, ints)), (omega (arith, ints)))

-- grown by nothing it is the hull
pub grown_none : (o : Option Rect) (q : Square) → IsInGrown 0 o q ↔ HullHas o q
grown_none None q = ((λ h. h), (λ h. h))
grown_none (Some r) q = (
  (λ h. let i = has_in (grown 0 r) q h in let i0 = i.0 in let i1 = i.1 in let i2 = i.2 in let i3 = i.3 in in_has r q ((omega (arith, ints)), (omega (arith, ints)), (omega (arith, ints)), (omega (arith, ints)))),
  (λ h. let i = has_in r q h in let i0 = i.0 in let i1 = i.1 in let i2 = i.2 in let i3 = i.3 in in_has (grown 0 r) q ((omega (arith, ints)), (omega (arith, ints)), (omega (arith, ints)), (omega (arith, ints)))),
)

-- a placed cell's grown hull comes to lie in the grown hull of the cell that places it
pub grown_up : (n : ℕ) (d : Linked) (cell i row column : ℕ) (p : Place) (q : Square) → IsSound d → IsStep d cell i row column p → IsInGrown n (hull_of (cell_at d p.cell)) q
    → IsInGrown n (hull_of (cell_at d cell)) (moved_square (motion_at p row column) q)
grown_up n d cell i row column p q sound step h =
    let s = near_square n (hull_of (cell_at d p.cell)) q (hull_sound d p.cell sound) h in
    within_grown n (hull_of (cell_at d cell)) (moved_square (motion_at p row column) q) (moved_square (motion_at p row column) s.0) (step_held d cell i row column p s.0 sound step s.1) ((withins n (motion_at p row column) q s.0).1 s.2)
