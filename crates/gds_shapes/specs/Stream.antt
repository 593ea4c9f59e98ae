-- The written stream: the records that cells with references, and with rectangles on layers, are
-- written as (GDSII Stream Format, Release 6).
use Rattle.std.specs.Prelude.{ℕ, ◌^◌, ◌<◌, List, [], ◌∷◌, ◌++◌}
use Rattle.std.specs.List.{All, flat_map}
use Rattle.geo_base.specs.Layers.{IsStreamKey}
use Rattle.geo_base.specs.Near.{IsLongRect}
use Rattle.geo_base.specs.declared.layer.LayerKey.{LayerKey}
use Rattle.geo_base.specs.declared.shapes.Point.{Point}
use Rattle.geo_base.specs.declared.shapes.Rect.{Rect}
use Rattle.gds_records.specs.Records.{Rec, record_bytes}
use Rattle.gds_records.specs.Kinds.{HEADER, BGNLIB, LIBNAME, UNITS, ENDLIB, BGNSTR, STRNAME, ENDSTR}
use Rattle.gds_records.specs.Kinds.{BOUNDARY, LAYER, DATATYPE, XY, ENDEL}
use Rattle.gds_elements.specs.Meaning.{Library, Ref}
use Rattle.gds_elements.specs.Reading.{rec}
use Rattle.gds_shapes.specs.Data.{bare, numbers, number, string, point_bytes}
use Rattle.gds_shapes.specs.References.{reference}
use Rattle.gds_shapes.specs.declared.heading.Heading as code

-- ---- what is written

-- what stands before a library's cells
pub record Heading : Type 0 where
  pub version : List ℕ
  pub dates : List ℕ
  pub name : List ℕ
  pub units : List ℕ

-- a cell as it is written: its references, and its rectangles by layers
pub record Drawn : Type 0 where
  pub dates : List ℕ
  pub name : List ℕ
  pub refs : List Ref
  pub layers : List (LayerKey × List Rect)

-- ---- the stream

-- the corners of a rectangle from the lower left one on, up first, and that one again
abbrev pub corners : Rect → List Point
corners r = record { x = r.x1; y = r.y1 } ∷ record { x = r.x1; y = r.y2 } ∷ record {
  x = r.x2;
  y = r.y2;
} ∷ record { x = r.x2; y = r.y1 } ∷ record { x = r.x1; y = r.y1 } ∷ []

-- the corners as data of XY
abbrev pub outline : Rect → List ℕ
outline r = flat_map point_bytes (corners r)

-- a rectangle on a layer as an element
abbrev pub boundary : LayerKey → Rect → List Rec
boundary key r = bare BOUNDARY ∷ number LAYER key.layer ∷ number DATATYPE key.datatype ∷ rec XY 3
    (outline r) ∷ bare ENDEL ∷ []

-- a layer: its rectangles in order
abbrev pub layer : LayerKey × List Rect → List Rec
layer l = flat_map (λ r. boundary l.0 r) l.1

-- a cell: its dates and name, the references in order, and the layers in order
abbrev pub structure : Drawn → List Rec
structure cell = numbers BGNSTR cell.dates ∷ string STRNAME cell.name
    ∷ (flat_map reference cell.refs ++ flat_map layer cell.layers) ++ bare ENDSTR ∷ []

-- what stands before the cells
abbrev pub header : Heading → List Rec
header heading = numbers HEADER heading.version ∷ numbers BGNLIB heading.dates
    ∷ string LIBNAME heading.name ∷ rec UNITS 5 heading.units ∷ []

-- a library of these cells, in order
abbrev pub stream : Heading → List Drawn → List Rec
stream heading cells = header heading ++ flat_map structure cells ++ bare ENDLIB ∷ []

-- its bytes
abbrev pub library_bytes : Heading → List Drawn → List ℕ
library_bytes heading cells = flat_map record_bytes (stream heading cells)

-- what stands before the cells of a library that was read
abbrev pub heading_of : Library → Heading
heading_of library = record {
  version = library.version;
  dates = library.dates;
  name = library.name;
  units = library.units;
}

-- ---- what can be written

-- a layer's numbers and coordinates have room in their records
pub record FitsLayer (l : LayerKey × List Rect) : Type 0 where
  pub key : IsStreamKey l.0
  pub rects : All IsLongRect l.1

-- what stands before the cells, as it is seen
abbrev pub heading_seen : code.Heading → Heading
heading_seen h = record {
  version = h.version;
  dates = h.dates;
  name = h.name.now;
  units = h.units;
}
