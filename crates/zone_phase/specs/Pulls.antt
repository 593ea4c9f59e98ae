-- Squares that elements of an array take onto rectangles.
use Rattle.std.specs.Prelude.{◌≡◌, ◌⊎◌, ◌↔◌, ℕ, ◌<◌, true, List, Some}
use Rattle.geo_base.specs.Motions.{moved_square}
use Rattle.geo_base.specs.Rects.{has}
use Rattle.geo_base.specs.declared.layer.LayerKey.{LayerKey}
use Rattle.geo_base.specs.declared.shapes.Rect.{Rect}
use Rattle.geo_base.specs.declared.shapes.Square.{Square}
use Rattle.rect_sets.specs.Rects.{covers}
use Rattle.cell_graph.specs.declared.cells.Place.{Place}
use Rattle.cell_graph.specs.Linked.{Linked, motion_at}
use Rattle.cell_context.specs.Over.{IsOver}
use Rattle.cell_context.specs.Visits.{IsMet}
use Rattle.deep_laws.specs.Zones.{IsFromSibling}

-- some element takes the square of the hull into the rectangle
pub record IsTaken (p : Place) (hull rect : Rect) (q : Square) : Type 0 where
  pub row : ℕ
  pub column : ℕ
  pub row_in : row < p.rows
  pub column_in : column < p.columns
  pub met : IsMet p hull rect row column q

-- it was there, or is taken into the rectangle
abbrev pub IsPulled : Place → Rect → Rect → List Rect → Square → Type 0
IsPulled p hull rect old q = (covers old q ≡ true) ⊎ IsTaken p hull rect q

-- an element of the array for which this holds of q, a square of the hull
pub record IsSome (p : Place) (hull : Rect) (P : ℕ → ℕ → Square
    → Type 0) (q : Square) : Type 0 where
  pub row : ℕ
  pub column : ℕ
  pub row_in : row < p.rows
  pub column_in : column < p.columns
  pub inner : has hull q ≡ true
  pub holds : P row column q

-- a list of rectangles grew by the squares of the hull for which this holds of some element
abbrev pub Adds : Place → Rect → (ℕ → ℕ → Square → Type 0) → List Rect → List Rect → Type 0
Adds p hull P old new = (q : Square) → (covers new q ≡ true) ↔ ((covers old q ≡ true)
    ⊎ IsSome p hull P q)

-- the element takes q onto the rectangles
abbrev pub OnRects : Place → List Rect → ℕ → ℕ → Square → Type 0
OnRects p rects row column q = covers rects (moved_square (motion_at p row column) q) ≡ true

-- the element takes q onto what stands beside the array in the parent
abbrev pub Beside : Linked → ℕ → ℕ → LayerKey → Place → ℕ → ℕ → Square → Type 0
Beside d parent index key p row column q = IsOver d parent (Some index) key (moved_square
    (motion_at p row column) q)

-- the same in windows of the parent
abbrev pub BesideIn : List Rect → Linked → ℕ → ℕ → LayerKey → Place → ℕ → ℕ → Square → Type 0
BesideIn windows d parent index key p row column q = OnRects p windows row column q
    × Beside d parent index key p row column q

-- the element takes q onto the rectangles in windows of the parent
abbrev pub OnRectsIn : List Rect → Place → List Rect → ℕ → ℕ → Square → Type 0
OnRectsIn windows p rects row column q = OnRects p windows row column q
    × OnRects p rects row column q

-- the windows hold the images of the hull
abbrev pub AreCovering : Place → Rect → List Rect → Type 0
AreCovering p hull windows = (row column : ℕ) (q : Square) → row < p.rows → column < p.columns
    → has hull q ≡ true → OnRects p windows row column q

-- the element takes q onto the parent's disturbed squares, or onto shapes beside it
abbrev pub Why : List Rect → Linked → ℕ → ℕ → LayerKey → Place → ℕ → ℕ → Square → Type 0
Why zone d parent index key p row column q = OnRects p zone row column q
    ⊎ (Beside d parent index key p row column q ⊎ IsFromSibling d p row column key q)
