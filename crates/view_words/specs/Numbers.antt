-- Numbers: decimal digits behind a minus, if any; and the numbers that KLayout takes.
use Rattle.std.specs.Prelude.{ℕ, ℤ, ◌^◌, ◌-◌, List, ◌∷◌, [], ◌++◌}
use Rattle.std.specs.Fmt.{signed_decimal}
use Rattle.geo_base.specs.Near.{IsWithin}
use Rattle.geo_base.specs.declared.shapes.Rect.{Rect}

-- the greatest that the reader takes, with either sign
abbrev pub GREATEST : ℕ
GREATEST = 2 ^ 31 - 1

-- the farthest from the origin that a coordinate may be: the step between two such, and so a width
-- or a height, is a number that the reader takes
abbrev pub FARTHEST : ℕ
FARTHEST = 2 ^ 30 - 1

abbrev pub IsReadable : ℤ → Type 0
IsReadable z = IsWithin GREATEST z

abbrev pub IsSmall : ℤ → Type 0
IsSmall z = IsWithin FARTHEST z

pub record IsSmallRect (r : Rect) : Type 0 where
  pub x1 : IsSmall r.x1
  pub y1 : IsSmall r.y1
  pub x2 : IsSmall r.x2
  pub y2 : IsSmall r.y2

-- two numbers in brackets
abbrev pub pair_text : ℤ → ℤ → List ℕ
pair_text x y = 0x28 ∷ (signed_decimal x ++ 0x20 ∷ (signed_decimal y ++ 0x29 ∷ []))
