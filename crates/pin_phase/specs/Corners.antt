-- Nets at whose squares' corners a point stands.
use Rattle.std.specs.Prelude.{◌≡◌, ◌↔◌, ◌≤ℤ◌, ◌+ℤ◌, ◌-ℤ◌, pos, ℕ, ℤ, List, Option, Some, None}
use Rattle.geo_base.specs.Near.{IsNearRect}
use Rattle.geo_base.specs.declared.shapes.Point.{Point}
use Rattle.geo_base.specs.declared.shapes.Rect.{Rect}
use Rattle.geo_base.specs.declared.shapes.Square.{Square}
use Rattle.flat_layout.specs.Layout.{Design, Some_of}
use Rattle.flat_layout.specs.Nets.{NetHolds, Tables}
use Rattle.flat_layout.specs.Plane.{IsCorner, IsIn}
use Rattle.flat_layout.specs.Regions.{At}
use Rattle.net_link_laws.specs.declared.piece.NetPiece.{NetPiece}

-- a number of a range, its ends among it
pub record IsBetween (low z high : ℤ) : Type 0 where
  pub from : low ≤ℤ z
  pub to : z ≤ℤ high

-- the point lies in the rectangle or on a side of it
pub record IsAt (at : Point) (r : Rect) : Type 0 where
  pub x : IsBetween r.x1 at.x r.x2
  pub y : IsBetween r.y1 at.y r.y2

-- the squares around a point
abbrev pub around : Point → Rect
around at = record {
  x1 = at.x -ℤ pos 1;
  y1 = at.y -ℤ pos 1;
  x2 = at.x +ℤ pos 1;
  y2 = at.y +ℤ pos 1;
}

-- the squares of the frame that have the point as a corner
pub record IsCornerPart (at : Point) (frame window : Rect) : Type 0 where
  pub near : IsNearRect window
  pub inside : (q : Square) → IsIn q window → IsIn q frame × IsCorner at q
  pub all : (q : Square) → IsIn q frame → IsCorner at q → IsIn q window

abbrev pub IsCornerWindow : Point → Rect → Option Rect → Type 0
IsCornerWindow at frame None = (q : Square) → IsIn q frame → IsCorner at q → ⊥
IsCornerWindow at frame (Some window) = IsCornerPart at frame window

-- the net has a square of the conductor with the point as a corner
pub record HasCorner (d : Design) (t : Tables) (cell conductor : ℕ) (at : Point) (x : ℕ) : Type 0
  where
    pub square : Square
    pub corner : IsCorner at square
    pub holds : NetHolds d t cell x (At conductor square)

-- some piece is of the net
abbrev pub IsPieceOf : List NetPiece → ℕ → Type 0
IsPieceOf pieces x = Some_of (λ p. p.net ≡ x) pieces

-- the pieces are of exactly these nets
abbrev pub AreAtCorners : Design → Tables → ℕ → ℕ → Point → List NetPiece → Type 0
AreAtCorners d t cell conductor at pieces =
    (x : ℕ) → IsPieceOf pieces x ↔ HasCorner d t cell conductor at x
