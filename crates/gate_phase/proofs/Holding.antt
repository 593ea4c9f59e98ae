-- What a hull holds, and what is close to it.
use Rattle.std.proofs.Common.{◌≡◌, ◌↔◌, inl, inr, ℕ, ◌+◌, ◌≤◌, ◌^◌, true, List, Option, Some, None, slice_index_or, sym, subst, arith}
use Rattle.std.specs.List.{All}
use Rattle.std.proofs.lemmas.Int.{ints}
use Rattle.geo_base.specs.Rects.{has}
use Rattle.geo_base.specs.declared.shapes.Rect.{Rect}
use Rattle.geo_base.specs.declared.shapes.Square.{Square}
use Rattle.rect_sets.specs.Near.{HasNearCorners, IsNearSet}
use Rattle.rect_sets.specs.Rects.{IsCanonical, covers}
use Rattle.rect_sets.proofs.Unique.{listed_get, rect_of}
use Rattle.flat_layout.specs.Parts.{IsCloseTo, IsLeast}
use Rattle.cell_graph.specs.Linked.{Linked, IsSound, IsRectWithin, HullIsSound, cell_at, hull_of}
use Rattle.cell_graph.proofs.Bridge.{has_in, hull_sound, in_has}
use Rattle.cell_graph.proofs.Growing.{grown_frame, near_square, within_grown}
use Rattle.flat_layout.specs.Plane.{AreWithin}
use Rattle.flat_laws.proofs.Moves.{farther, within_back}
use Rattle.cell_context.proofs.Visiting.{wider_rect}
use Rattle.deep_tables.specs.Frames.{IsInGrown, grown}
use Rattle.gate_shapes.specs.Sets.{in_set}
use Rattle.gate_phase.specs.Own.{IsHeldPart, IsUnitNear, unit_window}
use Rattle.gate_phase.proofs.Bringing.{near_corners}
use Rattle.gate_phase.proofs.Keeping.{frame_rect, listed_has}

pub frame_corners : (n : ℕ) (o : Option Rect) (q : Square) → n ≤ 20001 → HullIsSound o → IsInGrown n o q → HasNearCorners q
frame_corners n None q most sound h = absurd h
frame_corners n (Some w) q most sound h = near_corners (grown n w) q (wider_rect (2 ^ 37) (2 ^ 39) (grown n w) (omega arith) (grown_frame n w most sound).near) h

-- a held part is near
pub held_near : (n : ℕ) (d : Linked) (cell : ℕ) (part : List Rect) → n ≤ 10000 → IsSound d → IsHeldPart n d cell part → IsNearSet part
held_near n d cell part most sound held q e = frame_corners n (hull_of (cell_at d cell)) q (omega arith) (hull_sound d cell sound) (held q e)

-- and what is close to it lies in the grown hull
pub close_frame : (n : ℕ) (d : Linked) (cell : ℕ) (part close : List Rect) → IsSound d → IsHeldPart n d cell part → ((q : Square) → in_set close q ↔ IsCloseTo (in_set part) q) → (q : Square) → in_set close q → IsInGrown (n + 1) (hull_of (cell_at d cell)) q
close_frame n d cell part close sound held is q e =
    let o = hull_of (cell_at d cell) in
    let c = (is q).0 e in
    let a = near_square n o c.square (hull_sound d cell sound) (held c.square c.in_part) in
    within_grown (n + 1) o q a.0 a.1 (subst (λ m. AreWithin m q a.0) (let s : 1 + n ≡ n + 1 = omega arith in s) (farther 1 n q c.square a.0 (within_back 1 c.square q c.around) a.2))

pub close_near : (n : ℕ) (d : Linked) (cell : ℕ) (part close : List Rect) → n ≤ 10000 → IsSound d → IsHeldPart n d cell part → ((q : Square) → in_set close q ↔ IsCloseTo (in_set part) q) → IsNearSet close
close_near n d cell part close most sound held is q e = frame_corners (n + 1) (hull_of (cell_at d cell)) q (omega arith) (hull_sound d cell sound) (close_frame n d cell part close sound held is q e)

frame_windows : (n : ℕ) (o : Option Rect) (set : List Rect) → n ≤ 20001 → HullIsSound o → ((q : Square) → in_set set q → IsInGrown n o q) → IsCanonical set → All (IsRectWithin (2 ^ 39)) set
frame_windows n o set most sound h good = λ k r lt.
    let x = slice_index_or set k r in
    let l = listed_get set k r lt in
    frame_rect n o x most sound (rect_of (covers set) x ((good.each x).0 l)) (λ q e. h q (listed_has set x q l e))

pub close_windows : (n : ℕ) (d : Linked) (cell : ℕ) (part close : List Rect) → n ≤ 10000 → IsSound d → IsHeldPart n d cell part → ((q : Square) → in_set close q ↔ IsCloseTo (in_set part) q) → IsCanonical close → All (IsRectWithin (2 ^ 39)) close
close_windows n d cell part close most sound held is good = frame_windows (n + 1) (hull_of (cell_at d cell)) close (omega arith) (hull_sound d cell sound) (close_frame n d cell part close sound held is) good

pub part_windows : (n : ℕ) (d : Linked) (cell : ℕ) (part : List Rect) → n ≤ 10000 → IsSound d → IsHeldPart n d cell part → IsCanonical part → All (IsRectWithin (2 ^ 39)) part
part_windows n d cell part most sound held good = frame_windows n (hull_of (cell_at d cell)) part (omega arith) (hull_sound d cell sound) held good

pub grown_unit : (n : ℕ) (o : Option Rect) (q : Square) → n ≤ 20001 → HullIsSound o → IsInGrown n o q → IsUnitNear q
grown_unit n None q most sound h = absurd h
grown_unit n (Some w) q most sound h =
    let i = has_in (grown n w) q h in let i0 = i.0 in let i1 = i.1 in let i2 = i.2 in let i3 = i.3 in
    let near = (grown_frame n w most sound).near in
    let a = near.x1.low in let b = near.x2.high in let e = near.y1.low in let f = near.y2.high in
    record { x = record { low = omega (arith, ints); high = omega (arith, ints) }; y = record { low = omega (arith, ints); high = omega (arith, ints) } }

pub unit_near : (n : ℕ) (d : Linked) (cell : ℕ) (part : List Rect) (q : Square) → n ≤ 10000 → IsSound d → IsHeldPart n d cell part → in_set part q → IsUnitNear q
unit_near n d cell part q most sound held e = grown_unit n (hull_of (cell_at d cell)) q (omega arith) (hull_sound d cell sound) (held q e)

pub unit_has : (s : Square) → has (unit_window s) s ≡ true
unit_has s = in_has (unit_window s) s ((omega (arith, ints)), (omega (arith, ints)), (omega (arith, ints)), (omega (arith, ints)))

-- a set has one least square
pub one_least : (set : Square → Type 0) (s t : Square) → IsLeast set s → IsLeast set t → s ≡ t
one_least set s t a b = elim (a.least t b.has) [
  | inl e ↦ e
  | inr f ↦ elim (b.least s a.has) [
    | inl e ↦ sym e
    | inr g ↦ absurd (let z : ⊥ = grind (arith, ints, f, g) in z)
  ]
]
