-- Sets of squares as lists of rectangles, and how many squares they have.
use Rattle.std.specs.Prelude.{◌≡◌, ℕ, ◌+◌, ◌*◌, ◌-ℤ◌, unsigned_abs, true, List, [], ◌∷◌}
use Rattle.geo_base.specs.declared.shapes.Rect.{Rect}
use Rattle.geo_base.specs.declared.shapes.Square.{Square}
use Rattle.rect_sets.specs.Rects.{covers}

-- the squares that the rectangles cover
abbrev pub in_set : List Rect → Square → Type 0
in_set rects q = covers rects q ≡ true

abbrev pub area_of : Rect → ℕ
area_of r = unsigned_abs (r.x2 -ℤ r.x1) * unsigned_abs (r.y2 -ℤ r.y1)

-- the areas of the rectangles, added up
abbrev pub area : List Rect → ℕ
area [] = 0
area (r ∷ rects) = area_of r + area rects
