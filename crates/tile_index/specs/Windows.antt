-- What a window finds in a list of rectangles.
use Rattle.std.specs.Prelude.{◌≡◌, ◌↔◌, ℕ, List, Some, slice_get, Contains}
use Rattle.std.specs.List.Sorted.{IsStrictlyIncreasing}
use Rattle.geo_base.specs.Rects.{ShareSquare}
use Rattle.geo_base.specs.declared.shapes.Rect.{Rect}

-- a rectangle of the list stands at this position and shares a square with the window
abbrev pub IsFound : List Rect → Rect → ℕ → Type 0
IsFound rects w k = (r : Rect) × (slice_get rects k ≡ Some r) × ShareSquare r w

-- exactly the positions of the rectangles that share a square with the window, ascending
pub record ArePositions (rects : List Rect) (w : Rect) (found : List ℕ) : Type 0 where
  pub each : (k : ℕ) → Contains found k ↔ IsFound rects w k
  pub ascending : IsStrictlyIncreasing found
