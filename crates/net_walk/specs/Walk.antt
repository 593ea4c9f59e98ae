-- Pieces that a walk adds to a list.
use Rattle.std.specs.Prelude.{◌≡◌, ◌⊎◌, ◌↔◌, ℕ, ◌+◌, ◌<◌, ◌^◌, ◌≤ℤ◌, List, [], ◌∷◌, Some, slice_get}
use Rattle.flat_layout.specs.Layout.{Design, Place}
use Rattle.flat_layout.specs.Nets.{Tables, NetHolds}
use Rattle.flat_layout.specs.Plane.{IsIn}
use Rattle.flat_layout.specs.Regions.{At}
use Rattle.geo_base.specs.Motions.{moved_square}
use Rattle.geo_base.specs.Near.{IsNearRect, IsWithin}
use Rattle.geo_base.specs.Rects.{IsRect, grown}
use Rattle.geo_base.specs.declared.motion.Motion.{Motion}
use Rattle.geo_base.specs.declared.shapes.Rect.{Rect}
use Rattle.geo_base.specs.declared.shapes.Square.{Square}
use Rattle.net_link_laws.specs.Collected.{IsOver, AreCollected}
use Rattle.net_link_laws.specs.Windows.{IsHullOf}
use Rattle.net_link_laws.specs.declared.piece.NetPiece.{NetPiece}
use Rattle.net_walk.specs.declared.cells.Element.{Element}

abbrev pub place_of : Element → Place
place_of e = record { cell = e.cell; motion = e.motion }

-- its shift is so small that a hull's image is near the origin still
pub record IsClose (m : Motion) : Type 0 where
  pub dx : IsWithin (2 ^ 39) m.dx
  pub dy : IsWithin (2 ^ 39) m.dy

abbrev pub AreClose : List Element → Type 0
AreClose [] = Unit {0}
AreClose (e ∷ es) = IsClose e.motion × AreClose es

-- none of the rectangles is empty
abbrev pub HaveArea : List Rect → Type 0
HaveArea [] = Unit {0}
HaveArea (r ∷ rs) = IsRect r × HaveArea rs

-- own rectangles have squares, and are near the origin
pub record AreNearOwn (t : Tables) : Type 0 where
  pub rect : (cell c r : ℕ) (o : Rect) → slice_get (t.own cell c) r ≡ Some o → IsRect o
  pub near : (cell c r : ℕ) (o : Rect) → slice_get (t.own cell c) r ≡ Some o → IsNearRect (grown 1 o)

-- the cell's nets have no square outside the rectangle
pub record IsHull (d : Design) (t : Tables) (cell : ℕ) (r : Rect) : Type 0 where
  pub rect : IsRect r
  pub near : IsNearRect r
  pub all : (c x : ℕ) (q : Square) → NetHolds d t cell x (At c q) → IsIn q r

-- no net of the cell has a square of the conductor
abbrev pub HasNone : Design → Tables → ℕ → ℕ → Type 0
HasNone d t cell c = (x : ℕ) (q : Square) → NetHolds d t cell x (At c q) → ⊥

abbrev pub HasNoSquare : Design → Tables → ℕ → Type 0
HasNoSquare d t cell = (c : ℕ) → HasNone d t cell c

-- the placed cell's nets have no square outside the rectangle
pub record IsSpan (d : Design) (t : Tables) (p : Place) (r : Rect) : Type 0 where
  pub rect : IsRect r
  pub near : IsNearRect (grown 1 r)
  pub all : IsHullOf d t p r

-- the rectangle has squares, all of them in the window
pub record IsInside (r window : Rect) : Type 0 where
  pub rect : IsRect r
  pub x1 : window.x1 ≤ℤ r.x1
  pub x2 : r.x2 ≤ℤ window.x2
  pub y1 : window.y1 ≤ℤ r.y1
  pub y2 : r.y2 ≤ℤ window.y2

abbrev pub AreInside : Rect → List NetPiece → Type 0
AreInside window [] = Unit {0}
AreInside window (p ∷ ps) = IsInside p.rect window × AreInside window ps

-- the pieces are those before and some more, which are over these squares and lie in the window
pub record AddsPieces (window : Rect) (R : ℕ → Square → Type 0)
    (old new : List NetPiece) : Type 0 where
  pub over : (x : ℕ) (q : Square) → IsOver new x q ↔ (IsOver old x q ⊎ R x q)
  pub inside : AreInside window old → AreInside window new

-- the window's part of a rectangle of the net
abbrev pub IsClipped : Rect → ℕ → Rect → ℕ → Square → Type 0
IsClipped window net rect x q = (net ≡ x) × IsIn q rect × IsIn q window

-- of the rectangle at a position; the nets of all stand in a list from a place on
abbrev pub IsOfOwnAt : Rect → List Rect → List ℕ → ℕ → ℕ → ℕ → Square → Type 0
IsOfOwnAt window own net_of at r x q = (rect : Rect) × (slice_get own r ≡ Some rect)
    × (slice_get net_of (at + r) ≡ Some x) × IsIn q rect × IsIn q window

-- of the first n rectangles
abbrev pub IsOfOwn : Rect → List Rect → List ℕ → ℕ → ℕ → ℕ → Square → Type 0
IsOfOwn window own net_of at n x q = (r : ℕ) × (r < n) × (rect : Rect)
    × (slice_get own r ≡ Some rect) × (slice_get net_of (at + r) ≡ Some x) × IsIn q rect
    × IsIn q window

-- images of pieces, each in the net that stands that far behind a place
abbrev pub IsOfMoved : Motion → List NetPiece → List ℕ → ℕ → ℕ → Square → Type 0
IsOfMoved motion pieces net_of at x q = (b : ℕ) × (m : Square) × IsOver pieces b m
    × (slice_get net_of (at + b) ≡ Some x) × (moved_square motion m ≡ q)

-- the nets of the pieces stand in the list
abbrev pub AreListed : ℕ → ℕ → List NetPiece → Type 0
AreListed long at [] = Unit {0}
AreListed long at (p ∷ ps) = (at + p.net < long) × AreListed long at ps

-- of a hull, what a motion brings into the window
pub record IsPartIn (hull : Rect) (m : Motion) (window inner : Rect) : Type 0 where
  pub rect : IsRect inner
  pub near : IsNearRect inner
  pub inside : (s : Square) → IsIn s inner → IsIn (moved_square m s) window
  pub all : (s : Square) → IsIn s hull → IsIn (moved_square m s) window → IsIn s inner

-- of a placed cell, a window that has exactly what a placement brings into another
pub record IsPart (d : Design) (t : Tables) (p : Place) (window inner : Rect) : Type 0 where
  pub rect : IsRect inner
  pub near : IsNearRect inner
  pub inside : (m : Square) → IsIn m inner → IsIn (moved_square p.motion m) window
  pub all : (c x : ℕ) (m : Square) → NetHolds d t p.cell x (At c m)
      → IsIn (moved_square p.motion m) window → IsIn m inner

abbrev pub HasNoPart : Design → Tables → Place → Rect → Type 0
HasNoPart d t p window = (c x : ℕ) (m : Square) → NetHolds d t p.cell x (At c m)
    → IsIn (moved_square p.motion m) window → ⊥

-- what a cell's nets hold of a conductor in the window, in pieces that lie there
pub record IsCollection (d : Design) (t : Tables) (cell c : ℕ) (window : Rect)
    (pieces : List NetPiece) : Type 0 where
  pub collected : AreCollected d t cell c window pieces
  pub inside : AreInside window pieces
