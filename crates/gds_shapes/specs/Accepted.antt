-- What the written stream is read as.
use Rattle.std.specs.Prelude.{ℕ, List, [], map, IsTrue}
use Rattle.std.specs.List.{All, flat_map}
use Rattle.geo_base.specs.declared.layer.LayerKey.{LayerKey}
use Rattle.geo_base.specs.declared.shapes.Rect.{Rect}
use Rattle.gds_elements.specs.Data.{has_unit}
use Rattle.gds_elements.specs.Meaning.{Boundary, Shape, Cell, Library}
use Rattle.gds_elements.specs.Faults.{Accepts}
use Rattle.gds_shapes.specs.Data.{IsData, IsText, IsNamed}
use Rattle.gds_shapes.specs.References.{reference_read, FitsReference}
use Rattle.gds_shapes.specs.Stream.{Heading, Drawn, FitsLayer, corners, heading_of, library_bytes}

-- a rectangle on a layer as a shape: its outline
abbrev pub rect_shape : LayerKey → Rect → Shape
rect_shape key r = record { key = key; form = Boundary (corners r) }

-- the layers' rectangles as shapes, in order
abbrev pub layer_shapes : LayerKey × List Rect → List Shape
layer_shapes l = map (λ r. rect_shape l.0 r) l.1

-- a written cell as it is read: its references, the outlines of its rectangles, and nothing else
abbrev pub cell_read : Drawn → Cell
cell_read cell = record {
  dates = cell.dates;
  name = cell.name;
  shapes = flat_map layer_shapes cell.layers;
  texts = [];
  refs = map reference_read cell.refs;
}

-- the library of the written cells, in order
abbrev pub library_read : Heading → List Drawn → Library
library_read heading cells = record {
  version = heading.version;
  dates = heading.dates;
  name = heading.name;
  units = heading.units;
  cells = map cell_read cells;
}

-- data of their sizes, a name, and a database unit
pub record IsHeading (heading : Heading) : Type 0 where
  pub version : IsData 2 heading.version
  pub dates : IsData 24 heading.dates
  pub name : IsText heading.name
  pub units : IsData 16 heading.units
  pub unit : IsTrue (has_unit heading.units)

-- a cell whose name, references and rectangles have room in their records
pub record FitsCell (cell : Drawn) : Type 0 where
  pub dates : IsData 24 cell.dates
  pub name : IsNamed cell.name
  pub refs : All FitsReference cell.refs
  pub layers : All FitsLayer cell.layers

-- what is written is accepted, as the library of exactly these cells with these references and
-- the outlines of these rectangles
abbrev pub WrittenLaw : Type 0
WrittenLaw = (heading : Heading) (cells : List Drawn) → IsHeading heading → All FitsCell cells
    → Accepts (library_bytes heading cells) (library_read heading cells)

-- what an accepted library has before its cells, and each of its cells' names and references, could
-- be written so
abbrev pub ReadHeadingLaw : Type 0
ReadHeadingLaw = (bytes : List ℕ) (library : Library) → Accepts bytes library
    → IsHeading (heading_of library)

abbrev pub ReadReferencesLaw : Type 0
ReadReferencesLaw = (bytes : List ℕ) (library : Library) → Accepts bytes library
    → All (λ cell. All FitsReference cell.refs) library.cells

-- a library's header and a cell's as they are read: data of their sizes, a database unit, and names
-- without NULs at their ends
pub record IsRead (library : Library) (cell : Cell) : Type 0 where
  pub heading : IsHeading (heading_of library)
  pub cell_dates : IsData 24 cell.dates
  pub cell_name : IsNamed cell.name

-- an accepted library is such a library, with each of its cells
abbrev pub ReadLaw : Type 0
ReadLaw = (bytes : List ℕ) (library : Library) → Accepts bytes library
    → All (λ cell. IsRead library cell) library.cells
