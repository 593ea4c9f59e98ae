-- The library that a record list means (GDSII Stream Format, Release 6).
use Rattle.std.specs.Prelude.{ℕ, ℤ, pos, ◌/◌, ◌==◌, ◌||◌, Bool, false, nat_le, List, [], ◌∷◌, ◌++◌}
use Rattle.std.specs.Prelude.{unsigned_abs, if◌then◌else◌}
use Rattle.std.specs.Option.{unwrap_or}
use Rattle.gds_records.specs.Records.{Records, NoRecords, ◌▸◌}
use Rattle.geo_base.specs.declared.layer.LayerKey.{LayerKey}
use Rattle.geo_base.specs.declared.shapes.Point.{Point}
use Rattle.geo_base.specs.declared.shapes.Rect.{Rect}
use Rattle.geo_base.specs.declared.motion.Motion.{Motion}
use Rattle.geo_base.specs.declared.motion.Turn.{Turn}
use Rattle.geo_base.specs.declared.motion.Turn.TheVariants.{R0, R90, R180, R270, M0, M90, M180}
use Rattle.geo_base.specs.declared.motion.Turn.TheVariants.{M270}
use Rattle.gds_records.specs.Kinds.{HEADER, BGNLIB, LIBNAME, UNITS, BGNSTR, STRNAME, ENDSTR}
use Rattle.gds_records.specs.Kinds.{BOUNDARY, PATH, SREF, AREF, TEXT, LAYER, DATATYPE, WIDTH, XY}
use Rattle.gds_records.specs.Kinds.{ENDEL, SNAME, COLROW, TEXTTYPE, STRING, STRANS, ANGLE, PATHTYPE}
use Rattle.gds_records.specs.Kinds.{BOX, BOXTYPE, BGNEXTN, ENDEXTN}
use Rattle.geo_base.specs.Rects.{is_rect}
use Rattle.gds_elements.specs.Bounds.{is_start, is_line, is_bound}
use Rattle.gds_elements.specs.Data.{number, long, columns_in, rows_in, exactly, is_empty, trimmed}
use Rattle.gds_elements.specs.Data.{origin, points_of, first_of, hull, side, step}
use Rattle.gds_elements.specs.Data.{real_in}
use Rattle.fixed_num.specs.Real.{quarter_of}

-- ---- what a library is

-- the outline of an area; a path's points, half its width, and how far it goes beyond its first and
-- last point; a rectangle
pub data Form : Type 0 where
  Boundary : (points : List Point) → Form
  Path : (points : List Point) (half begin end : ℤ) → Form
  Box : (rect : Rect) → Form

pub record Shape : Type 0 where
  pub key : LayerKey
  pub form : Form

pub record Text : Type 0 where
  pub key : LayerKey
  pub at : Point
  pub text : List ℕ

-- a cell placed by a motion, columns times rows times
pub record Ref : Type 0 where
  pub cell : List ℕ
  pub motion : Motion
  pub columns : ℕ
  pub rows : ℕ
  pub column_step : Point
  pub row_step : Point

pub record Cell : Type 0 where
  pub dates : List ℕ
  pub name : List ℕ
  pub shapes : List Shape
  pub texts : List Text
  pub refs : List Ref

pub record Library : Type 0 where
  pub version : List ℕ
  pub dates : List ℕ
  pub name : List ℕ
  pub units : List ℕ
  pub cells : List Cell

-- ---- which data stands where

-- the record that began the open element, 0 where none is open
abbrev pub opened : Records → ℕ
opened NoRecords = 0
opened (before ▸ r) = if is_start r.kind then r.kind else if r.kind == ENDEL then 0
    else opened before

-- the kind of the last record
abbrev pub last_kind : Records → ℕ
last_kind NoRecords = 0
last_kind (before ▸ r) = r.kind

-- the data of the last record of a wanted kind, none where a bound stands behind it
abbrev pub found : (ℕ → Bool) → (ℕ → Bool) → Records → List ℕ
found wanted bound NoRecords = []
found wanted bound (before ▸ r) = if wanted r.kind then r.body else if bound r.kind then []
    else found wanted bound before

-- the library's record of a kind
abbrev pub head_part : ℕ → Records → List ℕ
head_part kind rs = found (λ k. k == kind) (λ k. false) rs

-- a structure begins or ends
abbrev pub is_cell_bound : ℕ → Bool
is_cell_bound kind = kind == BGNSTR || kind == ENDSTR

-- the open structure's record of a kind
abbrev pub cell_part : ℕ → Records → List ℕ
cell_part kind rs = found (λ k. k == kind) is_cell_bound rs

-- the open element's record of a kind
abbrev pub part : ℕ → Records → List ℕ
part kind rs = found (λ k. k == kind) is_bound rs

-- its type, of whichever kind
abbrev pub type_part : Records → List ℕ
type_part rs = found (λ k. k == DATATYPE || k == TEXTTYPE || k == BOXTYPE) is_bound rs

-- its string: of a text, or the name of the cell that a reference places
abbrev pub text_part : Records → List ℕ
text_part rs = found (λ k. k == STRING || k == SNAME) is_bound rs

-- ---- the open element

abbrev pub key_of : Records → LayerKey
key_of rs = record { layer = number (part LAYER rs); datatype = number (type_part rs) }

-- a boundary or a path gathers the points of its records; other elements have one record of them
abbrev pub gathered : ℕ → List Point → List Point → List Point
gathered start so_far points = if is_line start then so_far ++ points else points

abbrev pub open_points : Records → List Point
open_points NoRecords = []
open_points (before ▸ r) =
    if is_bound r.kind then []
    else if r.kind == XY then gathered (opened before) (open_points before) (points_of r.body)
    else open_points before

-- half the width, whose sign doesn't count
abbrev pub half_of : ℤ → ℤ
half_of width = pos (unsigned_abs width / 2)

-- how far a path goes beyond an end: not at all, by half its width, or by its own record
abbrev pub beyond : ℕ → ℤ → ℤ → ℤ
beyond path_type half extension = if path_type == 2 then half else if path_type == 4
    then extension else pos 0

abbrev pub path_form : ℕ → ℤ → ℤ → ℤ → List Point → Form
path_form path_type width begin end points = let half = half_of width in Path points half
    (beyond path_type half begin) (beyond path_type half end)

-- a box without area is the boundary of its points
abbrev pub box_form : List Point → Form
box_form points = if is_rect (hull points) then Box (hull points) else Boundary points

-- the shape that an element is: of a boundary, a path or a box
abbrev pub shapes_by : ℕ → LayerKey → ℕ → ℤ → ℤ → ℤ → List Point → List Shape
shapes_by start key path_type width begin end points =
    if start == BOUNDARY then record { key = key; form = Boundary points } ∷ []
    else if start == PATH then record {
      key = key;
      form = path_form path_type width begin end points;
    } ∷ []
    else if start == BOX then record { key = key; form = box_form points } ∷ []
    else []

abbrev pub open_shapes : Records → List Shape
open_shapes rs = shapes_by (opened rs) (key_of rs) (number (part PATHTYPE rs)) (long
    (part WIDTH rs)) (long (part BGNEXTN rs)) (long (part ENDEXTN rs)) (open_points rs)

-- a text with an empty string is dropped
abbrev pub text_at : LayerKey → Point → List ℕ → List Text
text_at key at text = if is_empty text then [] else record { key = key; at = at; text = text } ∷ []

-- the text that an element is
abbrev pub texts_by : ℕ → LayerKey → Point → List ℕ → List Text
texts_by start key at text = if start == TEXT then text_at key at text else []

abbrev pub open_texts : Records → List Text
open_texts rs = texts_by (opened rs) (key_of rs) (first_of (open_points rs)) (trimmed
    (text_part rs))

-- the highest bit of STRANS mirrors about the X axis, before the turn
abbrev pub is_mirrored : Records → Bool
is_mirrored rs = nat_le 32768 (number (part STRANS rs))

-- the quarters of ANGLE
abbrev pub quarters : List ℕ → ℕ
quarters bytes = unwrap_or (quarter_of (real_in bytes)) 0

abbrev pub turn_of : Bool → ℕ → Turn
turn_of mirrored quarter =
    if mirrored then (if quarter == 0 then M0 else if quarter == 1 then M90
    else if quarter == 2 then M180 else M270)
    else (if quarter == 0 then R0 else if quarter == 1 then R90 else if quarter == 2 then R180
    else R270)

abbrev pub motion_of : Turn → Point → Motion
motion_of turn at = record { turn = turn; dx = at.x; dy = at.y }

-- the columns and rows of the open element, and the sides of its array
abbrev pub columns_of : Records → ℕ
columns_of rs = columns_in (part COLROW rs)

abbrev pub rows_of : Records → ℕ
rows_of rs = rows_in (part COLROW rs)

-- one placement: one column, one row and steps of 0
abbrev pub single : List ℕ → Motion → Ref
single cell motion = record {
  cell = cell;
  motion = motion;
  columns = 1;
  rows = 1;
  column_step = origin;
  row_step = origin;
}

abbrev pub array : List ℕ → Motion → ℕ → ℕ → Point → Point → Ref
array cell motion columns rows column_side row_side = record {
  cell = cell;
  motion = motion;
  columns = columns;
  rows = rows;
  column_step = step column_side columns;
  row_step = step row_side rows;
}

-- the reference that an element is; every name that passes has bytes
abbrev pub refs_by : ℕ → List ℕ → Motion → ℕ → ℕ → Point → Point → List Ref
refs_by start cell motion columns rows column_side row_side =
    if start == SREF then (if is_empty cell then [] else single cell motion ∷ [])
    else if start == AREF then (if is_empty cell then []
    else array cell motion columns rows column_side row_side ∷ [])
    else []

abbrev pub open_refs : Records → List Ref
open_refs rs =
    refs_by (opened rs) (trimmed (text_part rs)) (motion_of (turn_of (is_mirrored rs) (quarters
    (part ANGLE rs))) (first_of (open_points rs)))
    (columns_of rs) (rows_of rs) (side (part XY rs) 8) (side (part XY rs) 16)

-- ---- the open structure, and the library

abbrev pub shapes_of : Records → List Shape
shapes_of NoRecords = []
shapes_of (before ▸ r) = if is_cell_bound r.kind then [] else if r.kind == ENDEL
    then shapes_of before ++ open_shapes before else shapes_of before

abbrev pub texts_of : Records → List Text
texts_of NoRecords = []
texts_of (before ▸ r) = if is_cell_bound r.kind then [] else if r.kind == ENDEL
    then texts_of before ++ open_texts before else texts_of before

abbrev pub refs_of : Records → List Ref
refs_of NoRecords = []
refs_of (before ▸ r) = if is_cell_bound r.kind then [] else if r.kind == ENDEL
    then refs_of before ++ open_refs before else refs_of before

-- the open structure as a cell; every structure that passes has a name
abbrev pub cell_by : List ℕ → List ℕ → List Shape → List Text → List Ref → List Cell
cell_by dates name shapes texts refs = if is_empty name then [] else record {
  dates = dates;
  name = name;
  shapes = shapes;
  texts = texts;
  refs = refs;
} ∷ []

abbrev pub open_cells : Records → List Cell
open_cells rs = cell_by (exactly 24 (cell_part BGNSTR rs)) (trimmed (cell_part STRNAME rs))
    (shapes_of rs) (texts_of rs) (refs_of rs)

abbrev pub cells_of : Records → List Cell
cells_of NoRecords = []
cells_of (before ▸ r) = if r.kind == ENDSTR then cells_of before ++ open_cells before
    else cells_of before

abbrev pub library_of : Records → Library
library_of rs = record {
  version = exactly 2 (head_part HEADER rs);
  dates = exactly 24 (head_part BGNLIB rs);
  name = trimmed (head_part LIBNAME rs);
  units = exactly 16 (head_part UNITS rs);
  cells = cells_of rs;
}
