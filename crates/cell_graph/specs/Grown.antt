-- Rectangles and hulls grown on all sides.
use Rattle.std.specs.Prelude.{◌≡◌, ℕ, pos, ◌-ℤ◌, ◌+ℤ◌, true, Option, Some, None}
use Rattle.geo_base.specs.Rects.{has, grown}
use Rattle.geo_base.specs.declared.shapes.Rect.{Rect}
use Rattle.geo_base.specs.declared.shapes.Square.{Square}

-- the grown hull has the square
abbrev pub IsInGrown : ℕ → Option Rect → Square → Type 0
IsInGrown n None q = ⊥
IsInGrown n (Some h) q = has (grown n h) q ≡ true
