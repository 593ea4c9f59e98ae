-- Spans of references, and what a window finds by them.
use Rattle.std.specs.Prelude.{◌≡◌, ◌⊎◌, ◌↔◌, ℕ, ◌<◌, ◌+ℤ◌, List, Option, Some, None, slice_get}
use Rattle.std.specs.Prelude.{Contains}
use Rattle.std.specs.List.Sorted.{IsStrictlyIncreasing}
use Rattle.geo_base.specs.Rects.{moved_rect, ShareSquare, IsInside}
use Rattle.geo_base.specs.declared.shapes.Rect.{Rect}
use Rattle.cell_graph.specs.declared.arrays.ElementOrigins.{ElementOrigins}
use Rattle.cell_graph.specs.declared.cells.Place.{Place}
use Rattle.cell_graph.specs.declared.cells.CellPart.{CellPart}
use Rattle.cell_graph.specs.Arrays.{HasFarOrigin}
use Rattle.cell_graph.specs.Linked.{Linked, motion_at, hull_of, cell_at, places_at}

-- some element's image of the hull has P
abbrev pub SomeImage : Place → Rect → (Rect → Type 0) → Type 0
SomeImage place hull P = (row : ℕ) × (column : ℕ) × (row < place.rows) × (column < place.columns)
    × P (moved_rect (motion_at place row column) hull)

-- the span of a reference: the least rectangle that holds the images of the placed cell's hull by
-- all elements
pub record IsSpan (place : Place) (hull r : Rect) : Type 0 where
  pub holds : (row column : ℕ) → row < place.rows → column < place.columns
      → IsInside (moved_rect (motion_at place row column) hull) r
  pub left : SomeImage place hull (λ s. s.x1 ≡ r.x1)
  pub low : SomeImage place hull (λ s. s.y1 ≡ r.y1)
  pub right : SomeImage place hull (λ s. s.x2 ≡ r.x2)
  pub high : SomeImage place hull (λ s. s.y2 ≡ r.y2)

-- or none, where there is no hull or an origin is out of range
abbrev pub IsSpanOr : Place → Option Rect → Option Rect → Type 0
IsSpanOr place hull None = (hull ≡ None) ⊎ HasFarOrigin place
IsSpanOr place hull (Some r) = (h : Rect) × (hull ≡ Some h) × IsSpan place h r

-- all sides are moved by the ends of the origins
pub record IsSwept (t : Rect) (o : ElementOrigins) (r : Rect) : Type 0 where
  pub x1 : r.x1 ≡ t.x1 +ℤ o.x.low
  pub y1 : r.y1 ≡ t.y1 +ℤ o.y.low
  pub x2 : r.x2 ≡ t.x2 +ℤ o.x.high
  pub y2 : r.y2 ≡ t.y2 +ℤ o.y.high

-- the k-th reference has this span; one to a cell without a hull has none
pub record HasSpan (cells : List CellPart) (places : List Place) (k : ℕ) (r : Rect) : Type 0 where
  pub place : Place
  pub there : slice_get places k ≡ Some place
  pub hull : Rect
  pub hull_is : hull_of (slice_get cells place.cell) ≡ Some hull
  pub span : IsSpan place hull r

-- the span of the cell's k-th reference shares a square with the window
abbrev pub IsPlaceIn : Linked → ℕ → Rect → ℕ → Type 0
IsPlaceIn d cell w k =
    (r : Rect) × HasSpan d.cells (places_at (cell_at d cell)) k r × ShareSquare r w

-- exactly these references, ascending
pub record ArePlacesIn (d : Linked) (cell : ℕ) (w : Rect) (found : List ℕ) : Type 0 where
  pub each : (k : ℕ) → Contains found k ↔ IsPlaceIn d cell w k
  pub ascending : IsStrictlyIncreasing found
