-- Visits: elements of arrays that reach into a window.
use Rattle.std.specs.Prelude.{◌≡◌, ℕ, ◌<◌, true, ◌&&◌, List, ◌++◌}
use Rattle.std.specs.List.{All}
use Rattle.geo_base.specs.Rects.{has}
use Rattle.geo_base.specs.Motions.{moved_square}
use Rattle.geo_base.specs.declared.shapes.Rect.{Rect}
use Rattle.geo_base.specs.declared.shapes.Square.{Square}
use Rattle.flat_layout.specs.Layout.{Some_of}
use Rattle.cell_graph.specs.declared.cells.Place.{Place}
use Rattle.cell_graph.specs.Linked.{IsFrame, motion_at}
use Rattle.cell_context.specs.declared.arrays.Visit.{Visit}

-- the visit's window is the part of the hull that the element takes into the window
pub record IsElementVisit (p : Place) (hull window : Rect) (v : Visit) : Type 0 where
  pub row : ℕ
  pub column : ℕ
  pub row_in : row < p.rows
  pub column_in : column < p.columns
  pub cell : v.cell ≡ p.cell
  pub motion : v.motion ≡ motion_at p row column
  pub near : IsFrame v.window
  pub has : (q : Square) → has v.window q ≡ (has hull q && has window (moved_square v.motion q))

-- the element takes the square of the hull into the window
pub record IsMet (p : Place) (hull window : Rect) (row column : ℕ) (q : Square) : Type 0 where
  pub inner : has hull q ≡ true
  pub outer : has window (moved_square (motion_at p row column) q) ≡ true

-- a visit of the element has the square
pub record IsVisited (p : Place) (row column : ℕ) (q : Square) (v : Visit) : Type 0 where
  pub cell : v.cell ≡ p.cell
  pub motion : v.motion ≡ motion_at p row column
  pub has : has v.window q ≡ true

abbrev pub IsFound : Place → ℕ → ℕ → Square → List Visit → Type 0
IsFound p row column q visits = Some_of (IsVisited p row column q) visits

abbrev pub IsElementOf : Place → ℕ → ℕ → Type 0
IsElementOf p row column = (row < p.rows) × (column < p.columns)

-- visits of elements were added, among them those of all that are meant
pub record AddsVisits (p : Place) (hull window : Rect) (meant : ℕ → ℕ → Type 0)
    (old new : List Visit) : Type 0 where
  pub more : List Visit
  pub behind : new ≡ old ++ more
  pub each : All (IsElementVisit p hull window) more
  pub found : (row column : ℕ) (q : Square) → meant row column
      → IsMet p hull window row column q → IsFound p row column q more

-- what was found still is
abbrev pub HasAllOf : List Visit → List Visit → Type 0
HasAllOf old new = (row column : ℕ) (p : Place) (q : Square) → IsFound p row column q old
    → IsFound p row column q new
