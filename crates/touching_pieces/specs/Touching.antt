-- Rectangles that touch: a square of the one is a square of the other, or shares an edge with one.
use Rattle.std.specs.Prelude.{ℤ, int_le, Bool, ◌&&◌, ◌||◌}
use Rattle.std.specs.Int.{int_min, int_max}
use Rattle.geo_base.specs.Rects.{is_rect, overlap}
use Rattle.flat_layout.specs.Plane.{IsIn, IsNear}
use Rattle.geo_base.specs.declared.shapes.Rect.{Rect}
use Rattle.geo_base.specs.declared.shapes.Square.{Square}

pub record AreTouching (a b : Rect) : Type 0 where
  pub one : Square
  pub other : Square
  pub in_one : IsIn one a
  pub in_other : IsIn other b
  pub near : IsNear one other

-- two ranges, each from its low end up to, but not at, its high end, have a number in common, or
-- the one begins where the other ends
abbrev pub adjoin : ℤ → ℤ → ℤ → ℤ → Bool
adjoin low high from to = int_le (int_max low from) (int_min high to)

-- they overlap in one direction, and overlap or adjoin in the other
abbrev pub is_near : Rect → Rect → Bool
is_near a b = (adjoin a.x1 a.x2 b.x1 b.x2 && overlap a.y1 a.y2 b.y1 b.y2)
    || (overlap a.x1 a.x2 b.x1 b.x2 && adjoin a.y1 a.y2 b.y1 b.y2)

-- the same as touching, by the sides of the rectangles
abbrev pub touches : Rect → Rect → Bool
touches a b = is_near a b && (is_rect a && is_rect b)
