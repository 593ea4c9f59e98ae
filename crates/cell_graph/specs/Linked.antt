-- Linked cells as plain values, and the hierarchical layout that they stand for.
use Rattle.std.specs.Prelude.{◌≡◌, ◌⊎◌, ℕ, suc, pos, ◌<◌, ◌≤◌, ◌^◌, ◌≤ℤ◌, List, [], ◌∷◌, Option}
use Rattle.std.specs.Prelude.{Some, None, map, length, slice_get, slice_index, true}
use Rattle.std.specs.Prelude.{if◌then◌else◌}
use Rattle.std.specs.List.{All}
use Rattle.geo_base.specs.Near.{IsWithin}
use Rattle.geo_base.specs.Rects.{IsRect, has, moved_rect, IsInside}
use Rattle.geo_base.specs.Layers.{is_same_key}
use Rattle.geo_base.specs.declared.layer.LayerKey.{LayerKey}
use Rattle.geo_base.specs.declared.motion.Motion.{Motion}
use Rattle.geo_base.specs.declared.shapes.Point.{Point}
use Rattle.geo_base.specs.declared.shapes.Rect.{Rect}
use Rattle.geo_base.specs.declared.shapes.Square.{Square}
use Rattle.flat_layout.specs.Arrays.{Reference, place_at, places_of}
use Rattle.flat_layout.specs.Hull.{IsHullOf, TakesPoint}
use Rattle.flat_layout.specs.Layout as flat
use Rattle.flat_layout.specs.declared.way.Way.{Way}
use Rattle.flat_layout.specs.declared.way.Way.TheVariants.{Disturbed}
use Rattle.plain_netlist.specs.Lists.{AreApart}
use Rattle.cell_graph.specs.declared.cells.OwnLayer.{OwnLayer}
use Rattle.cell_graph.specs.declared.cells.RawText.{RawText}
use Rattle.cell_graph.specs.declared.cells.Place.{Place}
use Rattle.cell_graph.specs.declared.cells.CellPart.{CellPart}

-- what a design is to its callers
pub record Linked : Type 0 where
  pub cells : List CellPart
  pub top : ℕ
  pub order : List ℕ
  pub way : Way

-- as it is linked, cells leave each square that something from elsewhere lies over
abbrev pub linked_of : List CellPart → ℕ → List ℕ → Linked
linked_of cells top order =
    record { cells = cells; top = top; order = order; way = Disturbed }

-- the same design, whose cells keep squares in this way
abbrev pub keeping : Way → Linked → Linked
keeping way d = record d { way = way }

-- the reference that stands for an array of placements
abbrev pub reference : Place → Reference
reference p = record {
  cell = p.cell;
  turn = p.motion.turn;
  origin =
      record { x = p.motion.dx; y = p.motion.dy };
  columns = p.columns;
  rows = p.rows;
  column_step =
      p.column_step;
  row_step = p.row_step;
}

abbrev pub plain_layer : OwnLayer → flat.Layer
plain_layer l = record { key = l.key; rects = l.set }

abbrev pub plain_text : RawText → flat.Text
plain_text t = record { key = t.key; at = t.at; string = t.text.items }

abbrev pub plain_cell : CellPart → flat.Cell
plain_cell c = record {
  name = c.name;
  layers = map plain_layer c.layers.items;
  texts =
      map plain_text c.texts.items;
  places = places_of (map reference c.places.items);
}

-- the plain layout: arrays stand as their placements
abbrev pub plain : Linked → flat.Design
plain d = record { cells = map plain_cell d.cells; top = d.top; way = d.way }

-- how an element of an array is moved
abbrev pub motion_at : Place → ℕ → ℕ → Motion
motion_at p row column = (place_at (reference p) row column).motion

-- both coordinates lie so far from 0 at most
pub record IsPointWithin (reach : ℕ) (p : Point) : Type 0 where
  pub x : IsWithin reach p.x
  pub y : IsWithin reach p.y

-- all sides lie so far from 0 at most
pub record IsRectWithin (reach : ℕ) (r : Rect) : Type 0 where
  pub x1 : IsWithin reach r.x1
  pub y1 : IsWithin reach r.y1
  pub x2 : IsWithin reach r.x2
  pub y2 : IsWithin reach r.y2

-- a hull of squares: within plus or minus 2^36
pub record IsHull (h : Rect) : Type 0 where
  pub some : IsRect h
  pub near : IsRectWithin (2 ^ 36) h

-- a rectangle that may be a grown hull: within plus or minus 2^37
pub record IsFrame (h : Rect) : Type 0 where
  pub some : IsRect h
  pub near : IsRectWithin (2 ^ 37) h

-- where the placed cell has a hull, the placing cell's hull holds its image
abbrev pub HoldsImage : Option Rect → Option Rect → Motion → Type 0
HoldsImage outer None m = Unit {0}
HoldsImage None (Some g) m = ⊥
HoldsImage (Some h) (Some g) m = IsInside (moved_rect m g) h

-- the hull holds the rectangles
abbrev pub HoldsRects : Option Rect → List Rect → Type 0
HoldsRects None rects = rects ≡ []
HoldsRects (Some h) rects = All (λ r. IsInside r h) rects

-- one element of an array: its shift is near, and the hull holds its image
pub record IsElement (outer inner : Option Rect) (m : Motion) : Type 0 where
  pub dx : IsWithin (2 ^ 36) m.dx
  pub dy : IsWithin (2 ^ 36) m.dy
  pub image : HoldsImage outer inner m

-- a reference to a lower cell
pub record IsReference (cells : List CellPart) (c : CellPart) (p : Place) : Type 0 where
  pub placed : CellPart
  pub there : slice_get cells p.cell ≡ Some placed
  pub lower : placed.height < c.height
  pub columns : 0 < p.columns
  pub rows : 0 < p.rows
  pub elements : (row column : ℕ) → row < p.rows → column < p.columns
      → IsElement c.hull placed.hull (motion_at p row column)

abbrev pub layer_keys : List OwnLayer → List LayerKey
layer_keys layers = map (λ l. l.key) layers

abbrev pub HullIsSound : Option Rect → Type 0
HullIsSound None = Unit {0}
HullIsSound (Some h) = IsHull h

pub record IsSoundCell (cells : List CellPart) (c : CellPart) : Type 0 where
  pub height : c.height ≤ 64
  pub hull : HullIsSound c.hull
  pub apart : AreApart (layer_keys c.layers.items)
  pub own : All (λ l. HoldsRects c.hull l.set) c.layers.items
  pub places : All (IsReference cells c) c.places.items

-- the cell of a number; past the last there is none
abbrev pub cell_at : Linked → ℕ → Option CellPart
cell_at d i = slice_get d.cells i

abbrev pub height_of : Option CellPart → ℕ
height_of None = 0
height_of (Some c) = c.height

-- a cell's height
abbrev pub height_at : Linked → ℕ → ℕ
height_at d cell = height_of (cell_at d cell)

abbrev pub hull_of : Option CellPart → Option Rect
hull_of None = None
hull_of (Some c) = c.hull

-- the cells that the top reaches, each once, none above a later one
pub record IsOrder (d : Linked) : Type 0 where
  pub few : length d.order < 2 ^ 32
  pub inside : (k : ℕ) → k < length d.order → slice_index d.order k < length d.cells
  pub reached : (k : ℕ) → k < length d.order → flat.IsReached (plain d) (slice_index d.order k)
  pub all : (cell : ℕ) → flat.IsReached (plain d) cell → (k : ℕ) × (k < length d.order)
      × (slice_index d.order k ≡ cell)
  pub once : (j k : ℕ) → j < length d.order → k < length d.order
      → slice_index d.order j ≡ slice_index d.order k → j ≡ k
  pub rising : (j k : ℕ) → j < k → k < length d.order
      → height_at d (slice_index d.order j) ≤ height_at d (slice_index d.order k)

-- one of the references is to a cell that stands just one below
pub record HasJustBelow (cells : List CellPart) (c : CellPart) : Type 0 where
  pub number : ℕ
  pub place : Place
  pub placed : CellPart
  pub from : slice_get c.places.items number ≡ Some place
  pub there : slice_get cells place.cell ≡ Some placed
  pub just : c.height ≡ suc placed.height

-- no cell stands higher than it must, and cells of one height come in the order of the file
pub record HaveLevels (d : Linked) : Type 0 where
  pub just : (i : ℕ) (c : CellPart) → slice_get d.cells i ≡ Some c
      → (c.height ≡ 0) ⊎ HasJustBelow d.cells c
  pub filed : (j k : ℕ) → j < k → k < length d.order
      → height_at d (slice_index d.order j) ≡ height_at d (slice_index d.order k)
      → slice_index d.order j < slice_index d.order k

-- each cell's stored hull is the least rectangle that holds what stands in and below it
pub record HaveHulls (d : Linked) : Type 0 where
  pub each : (cell : ℕ) → IsHullOf (plain d) cell (hull_of (cell_at d cell))

abbrev pub origin : Point
origin = record { x = pos 0; y = pos 0 }

-- the motion of each path of placements shifts by 2^36 at most: by what it moves the origin
pub record HaveNearPaths (d : Linked) : Type 0 where
  pub each : (from to : ℕ) (path : List ℕ) (p : Point)
      → TakesPoint (plain d) from path to origin p → IsPointWithin (2 ^ 36) p

-- what `link` gives and callers need
pub record IsSound (d : Linked) : Type 0 where
  pub count : length d.cells < 2 ^ 32
  pub top : d.top < length d.cells
  pub each : (i : ℕ) (c : CellPart) → slice_get d.cells i ≡ Some c → IsSoundCell d.cells c
  pub hulls : HaveHulls d
  pub paths : HaveNearPaths d
  pub order : IsOrder d
  pub levels : HaveLevels d

-- a cell's own rectangles on a layer: of the first entry of the key
abbrev pub own_rects : List OwnLayer → LayerKey → List Rect
own_rects [] key = []
own_rects (l ∷ layers) key = if is_same_key l.key key then l.set else own_rects layers key

abbrev pub own_of : Option CellPart → LayerKey → List Rect
own_of None key = []
own_of (Some c) key = own_rects c.layers.items key

abbrev pub places_at : Option CellPart → List Place
places_at None = []
places_at (Some c) = c.places.items

-- an element of a reference of a cell
pub record IsStep (d : Linked) (cell i row column : ℕ) (p : Place) : Type 0 where
  pub there : slice_get (places_at (cell_at d cell)) i ≡ Some p
  pub row_in : row < p.rows
  pub column_in : column < p.columns

-- the hull has the square
abbrev pub HullHas : Option Rect → Square → Type 0
HullHas None q = ⊥
HullHas (Some h) q = has h q ≡ true
