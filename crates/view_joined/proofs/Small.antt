-- What is small is near enough to be moved; and small drawings have small calls and devices.
use Rattle.std.proofs.Common.{◌≡◌, ◌<◌, ◌≤◌, ◌+◌, ◌+ℤ◌, ℕ, ℤ, zero, suc, pos, List, [], ◌∷◌, ◌++◌, Some, get_or, length, slice_get, sym, subst, arith}
use Rattle.std.proofs.lemmas.Int.{ints}
use Rattle.std.proofs.Math.Decide.{dec_lt}
use Rattle.std.proofs.lemmas.List.{get_or_past}
use Rattle.std.proofs.lemmas.Option.{get_or_from_slice_get, slice_get_within}
use Rattle.std.specs.List.{All}
use Rattle.geo_base.specs.Near.{IsNear, IsNearMotion, IsNearRect}
use Rattle.geo_base.specs.declared.motion.Motion.{Motion}
use Rattle.geo_base.specs.declared.shapes.Point.{Point}
use Rattle.geo_base.specs.declared.shapes.Rect.{Rect}
use Rattle.view_netlist.proofs.Drawings.{drawn_small}
use Rattle.view_netlist.specs.Drawing.{AreAllSmall, IsSmallPoint, IsSmallShift, drawn_of}
use Rattle.view_netlist.specs.declared.drawing.DevicePlace.{DevicePlace}
use Rattle.view_netlist.specs.declared.drawing.Drawing.{Drawing}
use Rattle.view_words.specs.Numbers.{IsSmall, IsSmallRect}
use Rattle.view_drawing.specs.Devices.{AddsRegions, Area}
use Rattle.view_joined.specs.Devices.{device_of}
use Rattle.view_joined.specs.Moved.{placed_rect}
use Rattle.view_joined.specs.Spots.{call_motion, still}

near : (z : ℤ) → IsSmall z → IsNear z
near z h =
    let low = h.low in
    let high = h.high in
    record { low = omega (arith, ints); high = omega (arith, ints) }

pub near_motion : (m : Motion) → IsSmallShift m → IsNearMotion m
near_motion m h = record { dx = near m.dx h.dx; dy = near m.dy h.dy }

pub near_rect : (r : Rect) → IsSmallRect r → IsNearRect r
near_rect r h = record { x1 = near r.x1 h.x1; y1 = near r.y1 h.y1; x2 = near r.x2 h.x2; y2 = near r.y2 h.y2 }

sum_near : (y z : ℤ) → IsSmall y → IsSmall z → IsNear (y +ℤ z)
sum_near y z h g =
    let hl = h.low in
    let hh = h.high in
    let gl = g.low in
    let gh = g.high in
    record { low = omega (arith, ints); high = omega (arith, ints) }

pub near_placed : (p : Point) (r : Rect) → IsSmallPoint p → IsSmallRect r → IsNearRect (placed_rect p r)
near_placed p r h g = record {
  x1 = sum_near p.x r.x1 h.x g.x1;
  y1 = sum_near p.y r.y1 h.y g.y1;
  x2 = sum_near p.x r.x2 h.x g.x2;
  y2 = sum_near p.y r.y2 h.y g.y2;
}

pub still_small : IsSmallShift still
still_small =
    let none : IsSmall (pos 0) = record { low = omega (arith, ints); high = omega (arith, ints) } in
    record { dx = none; dy = none }

pub shift_at : (ms : List Motion) (i : ℕ) → All IsSmallShift ms → IsSmallShift (get_or ms i still)
shift_at ms i h =
    elim (dec_lt i (length ms)) [
      | yes lt ↦ h i still lt
      | no past ↦ subst IsSmallShift (sym (get_or_past ms i still (let le : length ms ≤ i = omega arith in le))) still_small
    ]

pub call_small : (drawings : List Drawing) (circuit call : ℕ) → AreAllSmall drawings → IsSmallShift (call_motion drawings circuit call)
call_small drawings circuit call h = shift_at (drawn_of drawings circuit).calls call (drawn_small drawings circuit h).calls

pub all_at : {A : Type 0} (P : A → Type 0) (xs : List A) (k : ℕ) (x : A) → All P xs → slice_get xs k ≡ Some x → P x
all_at P xs k x h at = subst P (get_or_from_slice_get xs k x x at) (h k x (slice_get_within xs k x at))

pub place_small : (drawings : List Drawing) (circuit device : ℕ) (p : DevicePlace) → AreAllSmall drawings → device_of drawings circuit device ≡ Some p → IsSmallPoint p.at
place_small drawings circuit device p h at =
    all_at (λ (q : DevicePlace). IsSmallPoint q.at) (drawn_of drawings circuit).devices device p (drawn_small drawings circuit h).devices at

-- ---- regions that are added

pub longer : (a b : List Area) (k : ℕ) → AddsRegions a b → k < length a → k < length b
longer a b k adds lt = subst (λ (l : List Area). k < length l) (sym adds.1) (before a adds.0 k lt)
  where
    before : (xs ys : List Area) (n : ℕ) → n < length xs → n < length (xs ++ ys)
    before [] ys n less = absurd (omega arith)
    before (x ∷ xs) ys zero less = omega arith
    before (x ∷ xs) ys (suc n) less = let rest = before xs ys n (omega arith) in omega (arith, rest)

-- what stands in the front stood there before
pub stood_before : (a b : List Area) (k : ℕ) (x : Area) → AddsRegions a b → k < length a → slice_get b k ≡ Some x → slice_get a k ≡ Some x
stood_before a b k x adds lt at = before a adds.0 k lt (subst (λ (l : List Area). slice_get l k ≡ Some x) adds.1 at)
  where
    before : (xs ys : List Area) (n : ℕ) → n < length xs → slice_get (xs ++ ys) n ≡ Some x → slice_get xs n ≡ Some x
    before [] ys n less e = absurd (omega arith)
    before (y ∷ xs) ys zero less e = e
    before (y ∷ xs) ys (suc n) less e = before xs ys n (omega arith) e
