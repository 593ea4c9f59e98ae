-- The cells and the order of a finished design.
use Rattle.std.specs.Prelude.{◌≡◌, ◌⊎◌, ℕ, ◌<◌, ◌<ℤ◌, ◌≤ℤ◌, List, Option, Some, None, length}
use Rattle.std.specs.Prelude.{slice_get}
use Rattle.geo_base.specs.declared.shapes.Rect.{Rect}
use Rattle.cell_graph.specs.declared.cells.CellPart.{CellPart}
use Rattle.cell_graph.specs.declared.cells.Place.{Place}
use Rattle.cell_graph.specs.declared.bounds.Bounds.{Bounds}
use Rattle.cell_graph.specs.declared.drafts.CellDraft.{CellDraft}
use Rattle.cell_graph.specs.Bounds.{range_of}
use Rattle.cell_graph.specs.Chains.{Leads}
use Rattle.cell_graph.specs.declared.linking.Findings.{Findings}
use Rattle.cell_graph.specs.Drafts.{AreSound, AreParts, IsTop}
use Rattle.cell_graph.specs.Extents.{found_at, AreBounds}
use Rattle.cell_graph.specs.Ordering.{AreOrdered}
use Rattle.cell_graph.specs.Parts.{Part, Places}
use Rattle.cell_graph.specs.Rising.{height_in, HaveHeights}

-- the rectangle of the bounds, none where they have no width or no height
abbrev pub IsBoundsHull : Option Bounds → Option Rect → Type 0
IsBoundsHull None h = h ≡ None
IsBoundsHull (Some b) None = (b.x2 ≤ℤ b.x1) ⊎ (b.y2 ≤ℤ b.y1)
IsBoundsHull (Some b) (Some r) = (r ≡ range_of b) × (b.x1 <ℤ b.x2) × (b.y1 <ℤ b.y2)

-- the cell that a draft becomes
pub record IsMade (c : CellDraft) (places : List Place) (b : Option Bounds) (height : ℕ)
    (p : CellPart) : Type 0 where
  pub name_is : p.name ≡ c.name
  pub layers_are : p.layers ≡ c.layers
  pub texts_are : p.texts ≡ c.texts
  pub places_are : p.places.items ≡ places
  pub height_is : p.height ≡ height
  pub hull_is : IsBoundsHull b p.hull

-- the cells that the first n drafts become
pub record AreMadeTo (drafts : List CellDraft) (parts : List Part) (bounds : List (Option Bounds))
    (heights : List ℕ) (n : ℕ) (cells : List CellPart) : Type 0 where
  pub count : length cells ≡ n
  pub each : (i : ℕ) (c : CellDraft) (part : Part) (p : CellPart) → slice_get drafts i ≡ Some c
      → slice_get parts i ≡ Some part → slice_get cells i ≡ Some p
      → IsMade c part.items (found_at bounds i) (height_in heights i) p

abbrev pub AreMade : List CellDraft → List Part → List (Option Bounds) → List ℕ → List CellPart
    → Type 0
AreMade drafts parts bounds heights cells =
    AreMadeTo drafts parts bounds heights (length drafts) cells

abbrev pub IsFromTop : List Part → ℕ → ℕ → Type 0
IsFromTop parts top i = (n : ℕ) × Leads (Places parts) top n i

-- the first n cells of an order, but for those that the top doesn't reach
pub record AreReached (parts : List Part) (top : ℕ) (order : List ℕ) (n : ℕ)
    (kept : List ℕ) : Type 0 where
  pub inside : (j i : ℕ) → slice_get kept j ≡ Some i → IsFromTop parts top i
  pub all : (k i : ℕ) → k < n → slice_get order k ≡ Some i → IsFromTop parts top i → (j : ℕ)
      × (slice_get kept j ≡ Some i)
  pub from : (j i : ℕ) → slice_get kept j ≡ Some i → (k : ℕ) × (k < n)
      × (slice_get order k ≡ Some i)
  pub rising : (j k a b : ℕ) → j < k → slice_get kept j ≡ Some a → slice_get kept k ≡ Some b
      → (m : ℕ) × (l : ℕ) × (m < l) × (slice_get order m ≡ Some a) × (slice_get order l ≡ Some b)

-- what is found of the drafts before they become cells; `all` are their numbers by height
pub record IsExamined (cells : List CellDraft) (top : Option (List ℕ)) (e : Findings) : Type 0 where
  pub sound : AreSound cells
  pub are : AreParts cells e.parts.items
  pub heights_are : HaveHeights cells e.heights.items
  pub all : List ℕ
  pub ordered : AreOrdered e.heights.items 65 0 all
  pub bounds_are : AreBounds cells e.bounds.items
  pub reached : AreReached e.parts.items e.top all (length all) e.order.items
  pub tops : IsTop cells top e.top
