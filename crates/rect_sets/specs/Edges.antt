-- Sets of unit squares that weighted upright edges give.
use Rattle.std.specs.Prelude.{◌≡◌, ℤ, pos, ◌+ℤ◌, ◌<ℤ◌, int_le, int_lt, Bool, ◌&&◌, ◌||◌}
use Rattle.std.specs.Prelude.{List, [], ◌∷◌, if◌then◌else◌}
use Rattle.geo_base.specs.Rects.{is_between}
use Rattle.geo_base.specs.declared.shapes.Square.{Square}
use Rattle.rect_sets.specs.declared.row.Edge.{Edge}
use Rattle.geo_base.specs.declared.layer.Op.{Op}
use Rattle.geo_base.specs.Layers.{combined}

-- the two weights of an edge
abbrev pub first_of : Edge → ℤ
first_of e = e.first

abbrev pub second_of : Edge → ℤ
second_of e = e.second

-- the sum over the edges that pass the test
abbrev pub sum_where : (Edge → Bool) → (Edge → ℤ) → List Edge → ℤ
sum_where test field [] = pos 0
sum_where test field (e ∷ edges) = (if test e then field e else pos 0) +ℤ sum_where test field edges

-- whether an edge crosses the row
abbrev pub crosses : ℤ → Edge → Bool
crosses row e = is_between e.y1 row e.y2

-- an edge acts on the squares to its right in its rows
abbrev pub acts_on : Square → Edge → Bool
acts_on s e = crosses s.y e && int_le e.x s.x

-- the sum of the weights that act on a square
abbrev pub weight : (Edge → ℤ) → List Edge → Square → ℤ
weight field edges s = sum_where (acts_on s) field edges

-- the sum of the weights of a row's edges
abbrev pub total : (Edge → ℤ) → List Edge → ℤ → ℤ
total field edges row = sum_where (crosses row) field edges

-- whether a weight isn't 0
abbrev pub is_some : ℤ → Bool
is_some z = int_lt z (pos 0) || int_lt (pos 0) z

-- whether the operator holds of two weights: it asks of each only whether it isn't 0
abbrev pub holds : Op → ℤ → ℤ → Bool
holds op a b = combined op (is_some a) (is_some b)

-- the set that the edges and the operator give
abbrev pub set_of : Op → List Edge → Square → Bool
set_of op edges s = holds op (weight first_of edges s) (weight second_of edges s)

-- an edge has one row or more
pub record IsEdge (e : Edge) : Type 0 where
  pub some : e.y1 <ℤ e.y2

-- the weights of each row sum to 0
pub record IsBalanced (edges : List Edge) : Type 0 where
  pub first : (row : ℤ) → total first_of edges row ≡ pos 0
  pub second : (row : ℤ) → total second_of edges row ≡ pos 0
