-- Ranges of coordinates: the numbers of four bytes of a stream, and the far wider range in which
-- motions are worked, plus or minus 2^40.
use Rattle.std.specs.Prelude.{ℕ, ℤ, pos, ◌-ℤ◌, ◌≤ℤ◌, ◌<ℤ◌, ◌^◌}
use Rattle.geo_base.specs.declared.shapes.Point.{Point}
use Rattle.geo_base.specs.declared.shapes.Square.{Square}
use Rattle.geo_base.specs.declared.shapes.Rect.{Rect}
use Rattle.geo_base.specs.declared.motion.Motion.{Motion}

-- at most so far from 0
pub record IsWithin (reach : ℕ) (number : ℤ) : Type 0 where
  pub low : (pos 0 -ℤ pos reach) ≤ℤ number
  pub high : number ≤ℤ pos reach

-- within plus or minus 2^40
abbrev pub IsNear : ℤ → Type 0
IsNear number = IsWithin (2 ^ 40) number

-- both coordinates of a point are near
pub record IsNearPoint (p : Point) : Type 0 where
  pub x : IsNear p.x
  pub y : IsNear p.y

-- both coordinates of a square's lower left corner are near
pub record IsNearSquare (s : Square) : Type 0 where
  pub x : IsNear s.x
  pub y : IsNear s.y

-- all four sides of a rectangle are near
pub record IsNearRect (r : Rect) : Type 0 where
  pub x1 : IsNear r.x1
  pub y1 : IsNear r.y1
  pub x2 : IsNear r.x2
  pub y2 : IsNear r.y2

-- both parts of a motion's shift are near
pub record IsNearMotion (m : Motion) : Type 0 where
  pub dx : IsNear m.dx
  pub dy : IsNear m.dy

-- a number that four bytes of two's complement hold (GDSII Stream Format, four-byte signed)
pub record IsLong (z : ℤ) : Type 0 where
  pub low : (pos 0 -ℤ pos (2 ^ 31)) ≤ℤ z
  pub high : z <ℤ pos (2 ^ 31)

-- both coordinates of a point are such numbers
pub record IsLongPoint (p : Point) : Type 0 where
  pub x : IsLong p.x
  pub y : IsLong p.y

-- all four sides of a rectangle are
pub record IsLongRect (r : Rect) : Type 0 where
  pub x1 : IsLong r.x1
  pub y1 : IsLong r.y1
  pub x2 : IsLong r.x2
  pub y2 : IsLong r.y2
