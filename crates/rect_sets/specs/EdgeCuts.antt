-- Weighted edges cut in two by a line: each side's edges give the set on that side.
use Rattle.std.specs.Prelude.{◌≡◌, ℤ, int_lt, List, [], ◌∷◌, if◌then◌else◌}
use Rattle.std.specs.List.{All}
use Rattle.geo_base.specs.declared.shapes.Square.{Square}
use Rattle.rect_sets.specs.Edges.{set_of, IsEdge, IsBalanced}
use Rattle.rect_sets.specs.Halves.{low_half, high_half}
use Rattle.rect_sets.specs.declared.cuts.Axis.TheVariants.{X}
use Rattle.rect_sets.specs.declared.cuts.Cut.{Cut}
use Rattle.rect_sets.specs.declared.row.Edge.{Edge}
use Rattle.geo_base.specs.declared.layer.Op.{Op}

-- an edge in other rows
abbrev pub in_rows : Edge → ℤ → ℤ → Edge
in_rows e y1 y2 = record { x = e.x; y1 = y1; y2 = y2; first = e.first; second = e.second }

-- the parts of edges below a level line, and above it
abbrev pub edges_below : ℤ → List Edge → List Edge
edges_below y [] = []
edges_below y (e ∷ edges) =
    if int_lt e.y1 y
    then in_rows e e.y1 (if int_lt y e.y2 then y else e.y2) ∷ edges_below y edges
    else edges_below y edges

abbrev pub edges_above : ℤ → List Edge → List Edge
edges_above y [] = []
edges_above y (e ∷ edges) =
    if int_lt y e.y2
    then in_rows e (if int_lt e.y1 y then y else e.y1) e.y2 ∷ edges_above y edges
    else edges_above y edges

-- the edges left of an upright line, and the others
abbrev pub edges_left : ℤ → List Edge → List Edge
edges_left x [] = []
edges_left x (e ∷ edges) = if int_lt e.x x then e ∷ edges_left x edges else edges_left x edges

abbrev pub edges_right : ℤ → List Edge → List Edge
edges_right x [] = []
edges_right x (e ∷ edges) = if int_lt e.x x then edges_right x edges else e ∷ edges_right x edges

abbrev pub upright_at : ℤ → Cut
upright_at x = record { axis = X; at = x }

-- the edges of either side of a line
pub record AreSides (cut : Cut) (edges low high : List Edge) : Type 0 where
  pub low_edges : All IsEdge low
  pub low_balanced : IsBalanced low
  pub low_set : (op : Op) (s : Square) → set_of op low s ≡ low_half (set_of op edges) cut s
  pub high_edges : All IsEdge high
  pub high_balanced : IsBalanced high
  pub high_set : (op : Op) (s : Square) → set_of op high s ≡ high_half (set_of op edges) cut s
