-- The windows in which touching squares are looked for.
use Rattle.std.specs.Prelude.{◌≡◌, ℕ, pos, ◌+ℤ◌, ◌-ℤ◌, ◌<◌, List, Some, slice_get, length}
use Rattle.geo_base.specs.Rects.{common, grown}
use Rattle.std.specs.Int.{int_min, int_max}
use Rattle.flat_layout.specs.Layout.{Design, Place}
use Rattle.flat_layout.specs.Nets.{Tables, NetHolds}
use Rattle.flat_layout.specs.Plane.{IsIn, IsNear}
use Rattle.flat_layout.specs.Regions.{Wiring, At, IsJoined}
use Rattle.geo_base.specs.Motions.{moved_square}
use Rattle.geo_base.specs.declared.motion.Motion.{Motion}
use Rattle.geo_base.specs.declared.shapes.Rect.{Rect}
use Rattle.geo_base.specs.declared.shapes.Square.{Square}
use Rattle.net_link_laws.specs.declared.piece.NetPiece.{NetPiece}
use Rattle.net_link_laws.specs.Collected.{IsWindowBelow, IsOver, AreCollected}

-- rectangles of the cell itself that touch
pub record AreOwnInTouch (w : Wiring) (t : Tables) (cell c r e s : ℕ) : Type 0 where
  pub rect : Rect
  pub second : Rect
  pub listed : slice_get (t.own cell c) r ≡ Some rect
  pub listed_too : slice_get (t.own cell e) s ≡ Some second
  pub joined : IsJoined w c e
  pub p : Square
  pub q : Square
  pub in_one : IsIn p rect
  pub in_other : IsIn q second
  pub near : IsNear p q

-- a rectangle touches the image of a piece of a placed cell's net
pub record IsOwnBesideChild (w : Wiring) (t : Tables) (cell c r : ℕ) (place : Place)
    (pieces : ℕ → List NetPiece) (x : ℕ) : Type 0 where
  pub rect : Rect
  pub listed : slice_get (t.own cell c) r ≡ Some rect
  pub other : ℕ
  pub joined : IsJoined w c other
  pub p : Square
  pub m : Square
  pub inside : IsIn p rect
  pub over : IsOver (pieces other) x m
  pub near : IsNear p (moved_square place.motion m)

-- squares that the nets of two cells hold touch, as these lie by their placements
pub record AreInContact (d : Design) (w : Wiring) (t : Tables) (one other : Place)
    (x y : ℕ) : Type 0 where
  pub c : ℕ
  pub e : ℕ
  pub joined : IsJoined w c e
  pub m : Square
  pub n : Square
  pub held : NetHolds d t one.cell x (At c m)
  pub others : NetHolds d t other.cell y (At e n)
  pub near : IsNear (moved_square one.motion m) (moved_square other.motion n)

-- images of pieces of two placed cells' nets touch
pub record AreChildrenInTouch (w : Wiring) (one other : Place) (pieces others : ℕ → List NetPiece)
    (x y : ℕ) : Type 0 where
  pub c : ℕ
  pub e : ℕ
  pub known : c < length w.conductors
  pub known_too : e < length w.conductors
  pub joined : IsJoined w c e
  pub m : Square
  pub n : Square
  pub over : IsOver (pieces c) x m
  pub over_too : IsOver (others e) y n
  pub near : IsNear (moved_square one.motion m) (moved_square other.motion n)

-- of each of these conductors, what was collected of a placed cell in a window that has all squares
-- which the placement brings into another
abbrev pub AreSeen : Design → Tables → Place → Rect → (ℕ → Type 0) → (ℕ → List NetPiece) → Type 0
AreSeen d t p window which pieces = (c : ℕ) → which c → (inner : Rect)
    × IsWindowBelow d t p c window inner × AreCollected d t p.cell c inner (pieces c)

-- the rectangle of that number
abbrev pub IsOwnAt : Tables → ℕ → ℕ → ℕ → Rect → Type 0
IsOwnAt t cell c r rect = slice_get (t.own cell c) r ≡ Some rect

-- each square of the one placed cell's nets that is near one of the other's lies in the window, and
-- so does that one
abbrev pub IsEnoughFor : Design → Tables → Place → Place → Rect → Type 0
IsEnoughFor d t p q window = (c e x y : ℕ) (m n : Square) → NetHolds d t p.cell x (At c m)
    → NetHolds d t q.cell y (At e n) → IsNear (moved_square p.motion m) (moved_square q.motion n)
    → IsIn (moved_square p.motion m) window × IsIn (moved_square q.motion n) window

-- the nets of a cell have no square outside a hull, as it lies by a placement
abbrev pub IsHullOf : Design → Tables → Place → Rect → Type 0
IsHullOf d t p hull =
    (c x : ℕ) (m : Square) → NetHolds d t p.cell x (At c m) → IsIn (moved_square p.motion m) hull

-- two placements of the same cells, both moved on alike
pub record AreMovedAlike (o : Motion) (p q r s : Place) : Type 0 where
  pub one : r.cell ≡ p.cell
  pub other : s.cell ≡ q.cell
  pub moves_one : (m : Square) → moved_square r.motion m ≡ moved_square o (moved_square p.motion m)
  pub moves_other : (m : Square) → moved_square s.motion m
      ≡ moved_square o (moved_square q.motion m)
