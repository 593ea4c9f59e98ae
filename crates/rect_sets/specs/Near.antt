-- Sets that lie within plus or minus 2^40, where motions are worked.
use Rattle.std.specs.Prelude.{◌≡◌, pos, ◌+ℤ◌, true, List}
use Rattle.geo_base.specs.Near.{IsNearSquare}
use Rattle.geo_base.specs.declared.shapes.Rect.{Rect}
use Rattle.geo_base.specs.declared.shapes.Square.{Square}
use Rattle.rect_sets.specs.Rects.{covers}

-- all corners of a square are near
pub record HasNearCorners (s : Square) : Type 0 where
  pub low : IsNearSquare s
  pub high : IsNearSquare (record { x = s.x +ℤ pos 1; y = s.y +ℤ pos 1 })

-- each square of the set has near corners
abbrev pub IsNearSet : List Rect → Type 0
IsNearSet rects = (s : Square) → covers rects s ≡ true → HasNearCorners s
