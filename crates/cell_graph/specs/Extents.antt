-- The bounds of cells on their way up.
use Rattle.std.specs.Prelude.{◌≡◌, ◌⊎◌, ℕ, ◌<◌, List, Option, Some, None, length, slice_get, get_or}
use Rattle.std.specs.List.{All}
use Rattle.geo_base.specs.Rects.{IsRect}
use Rattle.geo_base.specs.declared.shapes.Point.{Point}
use Rattle.cell_graph.specs.declared.cells.OwnLayer.{OwnLayer}
use Rattle.cell_graph.specs.declared.cells.Place.{Place}
use Rattle.cell_graph.specs.declared.bounds.Bounds.{Bounds}
use Rattle.cell_graph.specs.declared.drafts.CellDraft.{CellDraft}
use Rattle.cell_graph.specs.declared.drafts.DraftRef.{DraftRef}
use Rattle.cell_graph.specs.Drafts.{HasRef, IsCorner, IsHullPoint}
use Rattle.cell_graph.specs.Arrays.{ArrayPoint, HasFarOrigin}
use Rattle.cell_graph.specs.Sides.{Widens, Among, IsCornerPoint, AreNear, AreNearIfAny}

abbrev pub found_at : List (Option Bounds) → ℕ → Option Bounds
found_at found i = get_or found i None

-- each array has a row and a column
pub record IsArray (place : Place) : Type 0 where
  pub rows : 0 < place.rows
  pub columns : 0 < place.columns

abbrev pub AreArrays : List Place → Type 0
AreArrays places = (k : ℕ) (p : Place) → slice_get places k ≡ Some p → IsArray p

-- each reference has a row and a column
pub record HasElements (r : DraftRef) : Type 0 where
  pub rows : 0 < r.rows
  pub columns : 0 < r.columns

abbrev pub HaveArrays : List CellDraft → Type 0
HaveArrays cells = (i k : ℕ) (r : DraftRef) → HasRef cells i k r → HasElements r

-- the origin of an element is out of range
abbrev pub HasFar : List Place → Type 0
HasFar places = (k : ℕ) × (p : Place) × (slice_get places k ≡ Some p) × HasFarOrigin p

-- a side is out of range
abbrev pub IsFarAway : Option Bounds → Type 0
IsFarAway None = ⊥
IsFarAway (Some b) = AreNear b → ⊥

-- what placements bring, by the corners of the placed cells' bounds
abbrev pub PlacePoint : List (Option Bounds) → Place → Point → Type 0
PlacePoint found place = ArrayPoint place (IsCornerPoint (found_at found place.cell))

abbrev pub PlacesPoint : List Place → List (Option Bounds) → Point → Type 0
PlacesPoint places found = Among (PlacePoint found) places

abbrev pub CellPoint : CellDraft → List Place → List (Option Bounds) → Point → Type 0
CellPoint c places found p = (Among (λ l. Among IsCorner l.set) c.layers.items p
    ⊎ Among (λ t q. t.at ≡ q) c.texts.items p) ⊎ PlacesPoint places found p

-- the least bounds of what stands in and below a cell, in range
pub record IsCellBounds (c : CellDraft) (places : List Place) (found : List (Option Bounds))
    (b : Option Bounds) : Type 0 where
  pub least : Widens None (CellPoint c places found) b
  pub near : AreNearIfAny b

-- an element's origin, or those bounds, are out of range
abbrev pub IsCellFar : CellDraft → List Place → List (Option Bounds) → Type 0
IsCellFar c places found =
    HasFar places ⊎ ((b : Option Bounds) × Widens None (CellPoint c places found) b × IsFarAway b)

-- own sets are lists of rectangles
abbrev pub AreRects : List OwnLayer → Type 0
AreRects layers = All (λ l. All IsRect l.set) layers

-- a cell's bounds: the least of its hull's points, in range
pub record IsBoundsOf (cells : List CellDraft) (i : ℕ) (b : Option Bounds) : Type 0 where
  pub least : Widens None (IsHullPoint cells i) b
  pub near : AreNearIfAny b
  pub rects : (c : CellDraft) → slice_get cells i ≡ Some c → AreRects c.layers.items

-- along an order, those of the first n cells
pub record AreBoundsTo (cells : List CellDraft) (order : List ℕ) (n : ℕ)
    (found : List (Option Bounds)) : Type 0 where
  pub count : length found ≡ length cells
  pub near : (i : ℕ) → AreNearIfAny (found_at found i)
  pub each : (k i : ℕ) → k < n → slice_get order k ≡ Some i → IsBoundsOf cells i (found_at found i)

-- those of all cells
pub record AreBounds (cells : List CellDraft) (found : List (Option Bounds)) : Type 0 where
  pub count : length found ≡ length cells
  pub each : (i : ℕ) → i < length cells → IsBoundsOf cells i (found_at found i)
