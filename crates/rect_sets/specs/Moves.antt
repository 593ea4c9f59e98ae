-- Rectangles that are shifted, and those that meet a window.
use Rattle.std.specs.Prelude.{ℤ, ◌+ℤ◌, int_lt, Bool, ◌&&◌, List, [], ◌∷◌, if◌then◌else◌}
use Rattle.geo_base.specs.Rects.{meets}
use Rattle.geo_base.specs.declared.shapes.Rect.{Rect}

-- a rectangle after a shift
abbrev pub shift : ℤ → ℤ → Rect → Rect
shift dx dy r = record { x1 = r.x1 +ℤ dx; y1 = r.y1 +ℤ dy; x2 = r.x2 +ℤ dx; y2 = r.y2 +ℤ dy }

-- all rectangles after a shift, in the same order
abbrev pub shifted : ℤ → ℤ → List Rect → List Rect
shifted dx dy [] = []
shifted dx dy (r ∷ rects) = shift dx dy r ∷ shifted dx dy rects

-- those that meet the window
abbrev pub meeting : Rect → List Rect → List Rect
meeting w [] = []
meeting w (r ∷ rects) = if meets r w then r ∷ meeting w rects else meeting w rects
