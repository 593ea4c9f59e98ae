-- Booleans of sets.
use Rattle.std.specs.Prelude.{ℤ, pos, ◌-ℤ◌, ◌≤ℤ◌, Bool, List, [], ◌∷◌}
use Rattle.rect_sets.specs.Rects.{covers}
use Rattle.geo_base.specs.declared.shapes.Rect.{Rect}
use Rattle.geo_base.specs.declared.shapes.Square.{Square}
use Rattle.rect_sets.specs.declared.row.Edge.{Edge}
use Rattle.geo_base.specs.declared.layer.Op.{Op}
use Rattle.geo_base.specs.Layers.{combined}

-- 0 or 1
pub record IsWeight (w : ℤ) : Type 0 where
  pub low : pos 0 ≤ℤ w
  pub high : w ≤ℤ pos 1

-- the left edge of a rectangle
abbrev pub left_of : ℤ → ℤ → Rect → Edge
left_of first second r = record { x = r.x1; y1 = r.y1; y2 = r.y2; first = first; second = second }

-- the right edge takes the weights back
abbrev pub right_of : ℤ → ℤ → Rect → Edge
right_of first second r = record {
  x = r.x2;
  y1 = r.y1;
  y2 = r.y2;
  first = pos 0 -ℤ first;
  second = pos 0 -ℤ second;
}

-- the two upright edges of each rectangle
abbrev pub edges_of : ℤ → ℤ → List Rect → List Edge
edges_of first second [] = []
edges_of first second (r ∷ rects) =
    left_of first second r ∷ right_of first second r ∷ edges_of first second rects

-- the set of the squares where the operator holds of two unions of rectangles
abbrev pub combined_set : Op → List Rect → List Rect → Square → Bool
combined_set op a b s = combined op (covers a s) (covers b s)
