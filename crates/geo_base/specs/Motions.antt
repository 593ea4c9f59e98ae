-- Motions of the plane: a turn, mirror first, then a shift; and the unit squares that they take to
-- one another.
use Rattle.std.specs.Prelude.{◌≡◌, ℤ, pos, ◌+ℤ◌, ◌-ℤ◌}
use Rattle.geo_base.specs.declared.shapes.Point.{Point}
use Rattle.geo_base.specs.declared.shapes.Square.{Square}
use Rattle.geo_base.specs.declared.motion.Turn.{Turn}
use Rattle.geo_base.specs.declared.motion.Turn.TheVariants.{R0, R90, R180, R270, M0, M90, M180}
use Rattle.geo_base.specs.declared.motion.Turn.TheVariants.{M270}
use Rattle.geo_base.specs.declared.motion.Motion.{Motion}

-- about the X axis
abbrev pub mirrored : Point → Point
mirrored p = record { x = p.x; y = pos 0 -ℤ p.y }

-- a quarter counterclockwise about the origin
abbrev pub quarter_turned : Point → Point
quarter_turned p = record { x = pos 0 -ℤ p.y; y = p.x }

-- the mirror first, then the quarters
abbrev pub turned : Turn → Point → Point
turned R0 p = p
turned R90 p = quarter_turned p
turned R180 p = quarter_turned (quarter_turned p)
turned R270 p = quarter_turned (quarter_turned (quarter_turned p))
turned M0 p = mirrored p
turned M90 p = quarter_turned (mirrored p)
turned M180 p = quarter_turned (quarter_turned (mirrored p))
turned M270 p = quarter_turned (quarter_turned (quarter_turned (mirrored p)))

abbrev pub moved_point : Motion → Point → Point
moved_point m p = record { x = (turned m.turn p).x +ℤ m.dx; y = (turned m.turn p).y +ℤ m.dy }

-- twice the centre of a square, in whole numbers
abbrev pub twice_centre : Square → Point
twice_centre s = record { x = (s.x +ℤ s.x) +ℤ pos 1; y = (s.y +ℤ s.y) +ℤ pos 1 }

-- the centre of the one square is the image of the other's
pub record IsImage (m : Motion) (s t : Square) : Type 0 where
  pub x : (twice_centre t).x ≡ ((turned m.turn (twice_centre s)).x +ℤ m.dx) +ℤ m.dx
  pub y : (twice_centre t).y ≡ ((turned m.turn (twice_centre s)).y +ℤ m.dy) +ℤ m.dy

-- the one square that is the image, by its lower left corner: the turned corner, or the corner
-- beside it
abbrev pub turned_x : Turn → ℤ → ℤ → ℤ
turned_x R0 x y = x
turned_x R90 x y = pos 0 -ℤ y -ℤ pos 1
turned_x R180 x y = pos 0 -ℤ x -ℤ pos 1
turned_x R270 x y = y
turned_x M0 x y = x
turned_x M90 x y = y
turned_x M180 x y = pos 0 -ℤ x -ℤ pos 1
turned_x M270 x y = pos 0 -ℤ y -ℤ pos 1

abbrev pub turned_y : Turn → ℤ → ℤ → ℤ
turned_y R0 x y = y
turned_y R90 x y = x
turned_y R180 x y = pos 0 -ℤ y -ℤ pos 1
turned_y R270 x y = pos 0 -ℤ x -ℤ pos 1
turned_y M0 x y = pos 0 -ℤ y -ℤ pos 1
turned_y M90 x y = x
turned_y M180 x y = y
turned_y M270 x y = pos 0 -ℤ x -ℤ pos 1

abbrev pub moved_square : Motion → Square → Square
moved_square m s = record {
  x = turned_x m.turn s.x s.y +ℤ m.dx;
  y = turned_y m.turn s.x s.y
      +ℤ m.dy;
}
