-- What a reader holds behind records.
use Rattle.std.specs.Prelude.{◌≡◌, ◌≢◌, ℕ, List, [], ◌∷◌, map, length, take, drop, true, false, ◌⊎◌}
use Rattle.std.specs.Prelude.{◌++◌, ◌+◌, ◌<◌, ◌≤◌, Result, Ok, Err, Option, Some, None}
use Rattle.gds_records.specs.Records.{Rec, Records, ◌▸◌, bytes_of, count_of, framing, record_bytes}
use Rattle.gds_records.specs.Kinds.{HEADER, BGNLIB, LIBNAME, UNITS, BGNSTR, STRNAME, LAYER, WIDTH}
use Rattle.gds_records.specs.Kinds.{XY, ANGLE, PATHTYPE, BGNEXTN, ENDEXTN}
use Rattle.gds_elements.specs.Data.{number, long, exactly, trimmed, side, first_of}
use Rattle.gds_elements.specs.declared.library.ShapeForm.{ShapeForm}
use Rattle.gds_elements.specs.declared.library.ShapeForm.TheVariants.{Boundary, Path, Box}
use Rattle.gds_elements.specs.declared.library.ShapeForm.TheVariants as form
use Rattle.gds_elements.specs.Corners.{corner_points}
use Rattle.gds_elements.specs.declared.library.RawShape.{RawShape}
use Rattle.gds_elements.specs.declared.library.RawText.{RawText}
use Rattle.gds_elements.specs.declared.library.RawRef.{RawRef}
use Rattle.gds_elements.specs.declared.library.RawCell.{RawCell}
use Rattle.gds_elements.specs.declared.library.Library.{Library}
use Rattle.gds_elements.specs.declared.element.Drawing.{Drawing}
use Rattle.gds_elements.specs.declared.element.Placing.{Placing}
use Rattle.gds_elements.specs.declared.element.Element.{Element}
use Rattle.gds_elements.specs.declared.reader.Structure.{Structure}
use Rattle.gds_elements.specs.declared.reader.Header.{Header}
use Rattle.gds_elements.specs.declared.reader.Reader.{Reader}
use Rattle.gds_elements.specs.declared.taken.Taken.{Taken, Nothing, More'}
use Rattle.gds_elements.specs.declared.stream.Stream.{Stream}
use Rattle.gds_elements.specs.declared.stream.TakeError.{TakeError}
use Rattle.gds_elements.specs.declared.stream.TakeError.TheVariants.{Fault, NoMemory}
use Rattle.gds_elements.specs.declared.library.GdsFault.{GdsFault}
use Rattle.gds_elements.specs.declared.library.GdsFault.TheVariants as fault
use Rattle.gds_elements.specs.declared.library.GdsFault.TheVariants.{Bad}
use Rattle.gds_grammar.specs.Left.{left_of}
use Rattle.gds_grammar.specs.Order.{left_after, is_ended}
use Rattle.gds_elements.specs.Faults.{Passes, fault_of, IsNextFault, FirstFault}
use Rattle.gds_elements.specs.Meaning as m

-- ---- values as they are seen

abbrev pub form_seen : ShapeForm → m.Form
form_seen (Boundary points) = m.Boundary points.items
form_seen (form.Corners corners) = m.Boundary (corner_points corners)
form_seen (Path points half begin end) = m.Path points.items half begin end
form_seen (Box rect) = m.Box rect

abbrev pub shape_seen : RawShape → m.Shape
shape_seen s = record { key = s.key; form = form_seen s.form }

abbrev pub text_seen : RawText → m.Text
text_seen t = record { key = t.key; at = t.at; text = t.text.items }

abbrev pub ref_seen : RawRef → m.Ref
ref_seen r = record {
  cell = r.cell;
  motion = r.motion;
  columns = r.columns;
  rows = r.rows;
  column_step = r.column_step;
  row_step = r.row_step;
}

abbrev pub cell_seen : RawCell → m.Cell
cell_seen c = record {
  dates = c.dates;
  name = c.name;
  shapes = map shape_seen c.shapes.items;
  texts = map text_seen c.texts.items;
  refs = map ref_seen c.refs.items;
}

abbrev pub library_seen : Library → m.Library
library_seen v = record {
  version = v.version;
  dates = v.dates;
  name = v.name.items;
  units = v.units;
  cells = map cell_seen v.cells.items;
}

-- the library with structures in front of it that were handed over before
abbrev pub library_after : List m.Cell → Library → m.Library
library_after taken v = record {
  version = v.version;
  dates = v.dates;
  name = v.name.items;
  units = v.units;
  cells = taken ++ map cell_seen v.cells.items;
}

-- the structures of a token, the last list of which it names first
abbrev pub taken_cells : Taken → List m.Cell
taken_cells Nothing = []
taken_cells (More' cells p before) = taken_cells before ++ map cell_seen cells.value.items

-- ---- what is held

abbrev pub rec : ℕ → ℕ → List ℕ → Rec
rec kind form body = record { kind = kind; form = form; body = body }

pub record HoldsDrawing (rs : Records) (d : Drawing) : Type 0 where
  pub layer : d.layer ≡ number (m.part LAYER rs)
  pub datatype : d.datatype ≡ number (m.type_part rs)
  pub path_type : d.path_type ≡ number (m.part PATHTYPE rs)
  pub width : d.width ≡ long (m.part WIDTH rs)
  pub begin : d.begin ≡ long (m.part BGNEXTN rs)
  pub end : d.end ≡ long (m.part ENDEXTN rs)

pub record HoldsPlacing (rs : Records) (p : Placing) : Type 0 where
  pub mirrored : p.mirrored ≡ m.is_mirrored rs
  pub quarter : p.quarter ≡ m.quarters (m.part ANGLE rs)
  pub columns : p.columns ≡ m.columns_of rs
  pub rows : p.rows ≡ m.rows_of rs
  pub column_side : p.column_side ≡ side (m.part XY rs) 8
  pub row_side : p.row_side ≡ side (m.part XY rs) 16

pub record HoldsElement (rs : Records) (e : Element) : Type 0 where
  pub start : e.start ≡ m.opened rs
  pub drawing : HoldsDrawing rs e.drawing
  pub placing : HoldsPlacing rs e.placing
  pub points : e.points.items ≡ m.open_points rs
  pub text : e.text.items ≡ trimmed (m.text_part rs)

pub record HoldsStructure (rs : Records) (s : Structure) : Type 0 where
  pub dates : s.dates ≡ exactly 24 (m.cell_part BGNSTR rs)
  pub name : s.name.items ≡ trimmed (m.cell_part STRNAME rs)
  pub shapes : map shape_seen s.shapes.items ≡ m.shapes_of rs
  pub texts : map text_seen s.texts.items ≡ m.texts_of rs
  pub refs : map ref_seen s.refs.items ≡ m.refs_of rs

-- the element's lists, and a structure that gained them
abbrev pub shapes_in : Element → List m.Shape
shapes_in e = let d = e.drawing in m.shapes_by e.start record {
  layer = d.layer;
  datatype = d.datatype;
} d.path_type d.width d.begin d.end e.points.items

abbrev pub texts_in : Element → List m.Text
texts_in e = m.texts_by e.start record { layer = e.drawing.layer; datatype = e.drawing.datatype }
    (first_of e.points.items) e.text.items

abbrev pub refs_in : Element → List m.Ref
refs_in e = let p = e.placing in m.refs_by e.start e.text.items (m.motion_of
    (m.turn_of p.mirrored p.quarter)
    (first_of e.points.items)) p.columns p.rows p.column_side p.row_side

pub record Gains (old new : Structure) (more_shapes : List m.Shape) (more_texts : List m.Text)
    (more_refs : List m.Ref) : Type 0 where
  pub dates : new.dates ≡ old.dates
  pub name : new.name ≡ old.name
  pub shapes : map shape_seen new.shapes.items ≡ map shape_seen old.shapes.items ++ more_shapes
  pub texts : map text_seen new.texts.items ≡ map text_seen old.texts.items ++ more_texts
  pub refs : map ref_seen new.refs.items ≡ map ref_seen old.refs.items ++ more_refs

pub record HoldsHeader (rs : Records) (h : Header) : Type 0 where
  pub version : h.version ≡ exactly 2 (m.head_part HEADER rs)
  pub dates : h.dates ≡ exactly 24 (m.head_part BGNLIB rs)
  pub name : h.name.items ≡ trimmed (m.head_part LIBNAME rs)
  pub units : h.units ≡ exactly 16 (m.head_part UNITS rs)

pub record Holds (rs : Records) (k : Reader) : Type 0 where
  pub header : HoldsHeader rs k.header
  pub structure : HoldsStructure rs k.structure
  pub element : HoldsElement rs k.element
  pub cells : taken_cells k.taken.value ++ map cell_seen k.cells.items ≡ m.cells_of rs

-- ---- where a reader stands

-- a reader stands behind these records, each of which passes
pub record Stands (rs : Records) (s : Stream) : Type 0 where
  pub place : left_after rs ≡ left_of s.place ∷ []
  pub count : s.count ≡ count_of rs
  pub offset : s.offset ≡ length (bytes_of rs)
  pub ended : s.ended ≡ is_ended rs
  pub passes : Passes rs
  pub last : s.last ≡ m.last_kind rs
  pub kept : Holds rs s.kept

-- what came of a record
abbrev pub Takes : Records → Rec → Result (Unit {0}) TakeError → Stream → Type 0
Takes before r (Ok u) new = Stands (before ▸ r) new
Takes before r (Err (Fault number)) new = fault_of before r ≡ Some number
Takes before r (Err NoMemory) new = Unit {0}

-- what came of the place in the bytes
abbrev pub Steps : Records → List ℕ → ℕ → Result (Option ℕ) GdsFault → Stream → Type 0
Steps before bytes at (Ok None) new = Stands before new × (framing (drop at bytes) ≡ Some 1)
Steps before bytes at (Ok (Some end)) new = (r : Rec) × (drop at bytes ≡ record_bytes r
    ++ drop end bytes) × Stands (before ▸ r) new
Steps before bytes at (Err (Bad number index offset)) new = (index ≡ count_of before) × (offset
    ≡ length (bytes_of before)) × IsNextFault before (drop at bytes) number × (number ≢ 1)
Steps before bytes at (Err fault.NoMemory) new = Unit {0}

-- the place went on by one record
pub record GoesOn (at end len : ℕ) (old new : Stream) : Type 0 where
  pub later : at < end
  pub within : end ≤ len
  pub count : new.count ≡ old.count + 1
  pub offset : new.offset + at ≡ old.offset + end

-- the bytes up to the place are records, which go on from those before
pub record Reached (before rs : Records) (bytes : List ℕ) (at : ℕ) : Type 0 where
  pub bytes_are : bytes_of rs ≡ bytes_of before ++ take at bytes

-- what came of whole records up to a place
abbrev pub Runs : Records → List ℕ → Result ℕ GdsFault → Stream → Type 0
Runs before bytes (Ok at) new = (rs : Records) × Reached before rs bytes at × Stands rs new
    × ((new.ended ≡ true) ⊎ (framing (drop at bytes) ≡ Some 1))
Runs before bytes (Err (Bad number index offset)) new =
    (rs : Records) × (at : ℕ) × Reached before rs bytes at × Passes rs × (is_ended rs ≡ false)
    × (index ≡ count_of rs) × (offset ≡ length (bytes_of rs)) × IsNextFault rs
    (drop at bytes) number × (number ≢ 1)
Runs before bytes (Err fault.NoMemory) new = Unit {0}

-- the fault is the bytes' first one
abbrev pub IsFaultOf : List ℕ → GdsFault → Type 0
IsFaultOf bytes (Bad number index offset) = FirstFault bytes number index offset
IsFaultOf bytes fault.NoMemory = Unit {0}

-- nothing else is answered where the bytes have this library, or this fault
abbrev pub OnlyLibrary : m.Library → Result Library GdsFault → Type 0
OnlyLibrary v (Ok w) = library_seen w ≡ v
OnlyLibrary v (Err (Bad number index offset)) = ⊥
OnlyLibrary v (Err fault.NoMemory) = Unit {0}

-- the same of a library whose first structures were handed over
abbrev pub OnlyRest : List m.Cell → m.Library → Result Library GdsFault → Type 0
OnlyRest taken v (Ok w) = library_after taken w ≡ v
OnlyRest taken v (Err (Bad number index offset)) = ⊥
OnlyRest taken v (Err fault.NoMemory) = Unit {0}

abbrev pub OnlyFault : ℕ → ℕ → ℕ → Result Library GdsFault → Type 0
OnlyFault number index offset (Ok w) = ⊥
OnlyFault number index offset (Err (Bad n i o)) = (n ≡ number) × (i ≡ index) × (o ≡ offset)
OnlyFault number index offset (Err fault.NoMemory) = Unit {0}
