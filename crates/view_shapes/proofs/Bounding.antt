-- Pieces are as near as the hull of the cell that they are shown in; and a far one is a rectangle that
-- a net shows.
use Rattle.std.proofs.Common.{◌↔◌, inl, inr, ℕ, Bool, List, [], ◌∷◌, Option, Some, None, IfSome, IfNone, pos, ◌-ℤ◌, refl, arith}
use Rattle.std.proofs.lemmas.Int.{ints}
use Rattle.flat_layout.specs.Layout.{Design}
use Rattle.flat_layout.specs.Nets.{Tables}
use Rattle.flat_layout.specs.Plane.{IsIn}
use Rattle.geo_base.specs.Near.{IsNear, IsNearRect}
use Rattle.geo_base.specs.Rects.{IsRect}
use Rattle.geo_base.specs.declared.shapes.Rect.{Rect}
use Rattle.geo_base.specs.declared.shapes.Square.{Square}
use Rattle.net_walk.specs.Walk.{HasNoSquare, IsHull}
use Rattle.view_shapes.specs.ReadLaws.{Called}
use Rattle.view_shapes.proofs.Adding.{nowhere}
use Rattle.view_shapes.proofs.Showing.{shows_holds}
use Rattle.view_shapes.specs.Pieces.{AreNear, AreProper, HasFar, IsOver}
use Rattle.view_shapes.specs.Shown.{IsShownWanted, ShowsFar}
use Rattle.view_shapes.specs.declared.pieces.Piece.{Piece}

-- a rectangle whose squares are all in a near one is near
near_inside : (r window : Rect) → IsRect r → IsNearRect window → ((q : Square) → IsIn q r → IsIn q window) → IsNearRect r
near_inside r window proper near all =
    let wide = proper.wide in
    let high = proper.high in
    let low : Square = record { x = r.x1; y = r.y1 } in
    let top : Square = record { x = r.x2 -ℤ pos 1; y = r.y2 -ℤ pos 1 } in
    let a = all low (omega (arith, ints), wide, omega (arith, ints), high) in
    let b = all top (omega (arith, ints), omega (arith, ints), omega (arith, ints), omega (arith, ints)) in
    let a0 = a.0 in let a1 = a.1 in let a2 = a.2 in let a3 = a.3 in
    let b0 = b.0 in let b1 = b.1 in let b2 = b.2 in let b3 = b.3 in
    let xl = near.x1.low in let xh = near.x2.high in
    let yl = near.y1.low in let yh = near.y2.high in
    record {
      x1 = record { low = omega (arith, ints); high = omega (arith, ints) };
      y1 = record { low = omega (arith, ints); high = omega (arith, ints) };
      x2 = record { low = omega (arith, ints); high = omega (arith, ints) };
      y2 = record { low = omega (arith, ints); high = omega (arith, ints) };
    }

near_pieces : (ps : List Piece) (window : Rect) → IsNearRect window → ((c x : ℕ) (q : Square) → IsOver ps c x q → IsIn q window) → AreProper ps → AreNear ps
near_pieces [] window near all h = tt
near_pieces (p ∷ ps) window near all h = (
  near_inside p.rect window h.0 near (λ q inside. all p.conductor p.net q (inl (refl, refl, inside))),
  h.0,
  near_pieces ps window near (λ c x q over. all c x q (inr over)) h.1,
)

nowhere_near : IsNearRect nowhere
nowhere_near =
    let zero : IsNear (pos 0) = record { low = omega (arith, ints); high = omega (arith, ints) } in
    record { x1 = zero; y1 = zero; x2 = zero; y2 = zero }

-- what a cell's nets show is as near as its hull
pub all_near : (d : Design) (t : Tables) (called : Called) (cell : ℕ) (wanted : List Bool) (ps : List Piece) (hull : Option Rect)
    → ((c x : ℕ) (q : Square) → IsOver ps c x q ↔ IsShownWanted d t called cell wanted c x q)
    → IfSome hull (IsHull d t cell) → IfNone hull (HasNoSquare d t cell) → AreProper ps → AreNear ps
all_near d t called cell wanted ps (Some r) shown some none h =
    near_pieces ps r some.near (λ c x q over. some.all c x q (shows_holds d t called cell c x q ((shown c x q).0 over).1)) h
all_near d t called cell wanted ps None shown some none h =
    near_pieces ps nowhere nowhere_near (λ c x q over. absurd (none c x q (shows_holds d t called cell c x q ((shown c x q).0 over).1))) h

-- a far piece
pub far_shown : (d : Design) (t : Tables) (called : Called) (cell : ℕ) (wanted : List Bool) (ps : List Piece)
    → ((c x : ℕ) (q : Square) → IsOver ps c x q → IsShownWanted d t called cell wanted c x q) → AreNear ps → HasFar ps → ShowsFar d t called cell wanted
far_shown d t called cell wanted [] shown near far = absurd far
far_shown d t called cell wanted (p ∷ ps) shown near (inl far) = record {
  conductor = p.conductor;
  net = p.net;
  rect = p.rect;
  proper = near.1;
  shown = λ q inside. shown p.conductor p.net q (inl (refl, refl, inside));
  far = far;
}
far_shown d t called cell wanted (p ∷ ps) shown near (inr far) = far_shown d t called cell wanted ps (λ c x q over. shown c x q (inr over)) near.2 far
