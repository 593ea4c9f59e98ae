-- The indexes of cells.
use Rattle.std.specs.Prelude.{◌≡◌, ℕ, ◌<◌, List, Some, length, map, slice_get, IfSome}
use Rattle.std.specs.List.Sorted.{IsStrictlyIncreasing}
use Rattle.geo_base.specs.declared.shapes.Rect.{Rect}
use Rattle.cell_graph.specs.declared.cells.OwnLayer.{OwnLayer}
use Rattle.cell_graph.specs.declared.cells.Place.{Place}
use Rattle.cell_graph.specs.declared.cells.CellPart.{CellPart}
use Rattle.cell_graph.specs.declared.indexes.CellIndex.{CellIndex}
use Rattle.cell_graph.specs.Linked.{IsSoundCell}
use Rattle.cell_graph.specs.Marking.{IsOn}
use Rattle.cell_graph.specs.Spans.{HasSpan}

-- the rectangles of each layer
abbrev pub sets_of : List OwnLayer → List (List Rect)
sets_of layers = map (λ l. l.set) layers

-- the spans of the first n references, and the numbers of those that have one
pub record AreSpansTo (cells : List CellPart) (places : List Place) (n : ℕ) (numbers : List ℕ)
    (spans : List Rect) : Type 0 where
  pub count : length spans ≡ length numbers
  pub each : (j k : ℕ) (r : Rect) → slice_get numbers j ≡ Some k → slice_get spans j ≡ Some r
      → (k < n) × HasSpan cells places k r
  pub all : (k : ℕ) (r : Rect) → k < n → HasSpan cells places k r → IsOn numbers k
  pub ascending : IsStrictlyIncreasing numbers

abbrev pub AreSpans : List CellPart → List Place → List ℕ → List Rect → Type 0
AreSpans cells places numbers spans = AreSpansTo cells places (length places) numbers spans

-- the indexes of one cell
pub record IsIndexed (cells : List CellPart) (c : CellPart) (x : CellIndex) : Type 0 where
  pub own : IfSome x.own (λ own. own.items ≡ sets_of c.layers.items)
  pub spans : AreSpans cells c.places.items x.spanned.items x.spans

-- those of the first n cells
pub record AreIndexedTo (cells : List CellPart) (n : ℕ) (indexes : List CellIndex) : Type 0 where
  pub count : length indexes ≡ n
  pub each : (i : ℕ) (c : CellPart) (x : CellIndex) → slice_get cells i ≡ Some c
      → slice_get indexes i ≡ Some x → IsIndexed cells c x

abbrev pub AreIndexed : List CellPart → List CellIndex → Type 0
AreIndexed cells indexes = AreIndexedTo cells (length cells) indexes

-- each cell is sound
abbrev pub AreSoundCells : List CellPart → Type 0
AreSoundCells cells = (i : ℕ) (c : CellPart) → slice_get cells i ≡ Some c → IsSoundCell cells c
