-- Squares that go up through the elements of an array.
use Rattle.std.specs.Prelude.{◌≡◌, ◌⊎◌, ℕ, ◌<◌, true, List}
use Rattle.cell_graph.specs.declared.cells.Place.{Place}
use Rattle.cell_graph.specs.Linked.{motion_at}
use Rattle.geo_base.specs.Motions.{moved_square}
use Rattle.geo_base.specs.Rects.{has}
use Rattle.geo_base.specs.declared.shapes.Rect.{Rect}
use Rattle.geo_base.specs.declared.shapes.Square.{Square}
use Rattle.gate_shapes.specs.Sets.{in_set}

-- an element takes a square of the set to q
pub record IsLifted (p : Place) (set : List Rect) (q : Square) : Type 0 where
  pub row : ℕ
  pub column : ℕ
  pub row_in : row < p.rows
  pub column_in : column < p.columns
  pub square : Square
  pub has : in_set set square
  pub image : moved_square (motion_at p row column) square ≡ q

-- all that goes up lies in the plane
abbrev pub Lands : Place → List Rect → Rect → Type 0
Lands p set plane = (q : Square) → IsLifted p set q → has plane q ≡ true

-- the new squares are the old ones and those
pub record Lifts (p : Place) (set old new : List Rect) : Type 0 where
  pub each : (q : Square) → in_set new q → in_set old q ⊎ IsLifted p set q
  pub kept : (q : Square) → in_set old q → in_set new q
  pub all : (q : Square) → IsLifted p set q → in_set new q
