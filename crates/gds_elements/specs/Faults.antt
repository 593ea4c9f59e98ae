-- Which fault a record has behind the records before it, and what bytes are accepted.
use Rattle.std.specs.Prelude.{◌≡◌, ℕ, ◌+◌, ◌%◌, Bool, true, ◌==◌, ◌||◌, ◌&&◌, not, nat_le, nat_lt}
use Rattle.std.specs.Prelude.{bit_and, unsigned_abs, List, ◌++◌, length, Option, Some, None}
use Rattle.std.specs.Prelude.{is_some, if◌then◌else◌}
use Rattle.gds_records.specs.Records.{Rec, IsRecord, framing, record_bytes, Records, NoRecords, ◌▸◌}
use Rattle.gds_records.specs.Records.{bytes_of, count_of}
use Rattle.gds_grammar.specs.Order.{can_go_on, IsEnded}
use Rattle.geo_base.specs.declared.shapes.Point.{Point}
use Rattle.gds_records.specs.Kinds.{HEADER, BGNLIB, LIBNAME, UNITS, ENDLIB, BGNSTR, STRNAME, ENDSTR}
use Rattle.gds_records.specs.Kinds.{BOUNDARY, PATH, SREF, AREF, TEXT, LAYER, DATATYPE, WIDTH, XY}
use Rattle.gds_records.specs.Kinds.{ENDEL, SNAME, COLROW, NODE, TEXTTYPE, PRESENTATION, STRING}
use Rattle.gds_records.specs.Kinds.{STRANS, MAG, ANGLE, PATHTYPE, ELFLAGS, NODETYPE, PROPATTR}
use Rattle.gds_records.specs.Kinds.{PROPVALUE, BOX, BOXTYPE, PLEX, BGNEXTN, ENDEXTN}
use Rattle.gds_elements.specs.Bounds.{is_line}
use Rattle.gds_elements.specs.Data.{number, long, columns_in, rows_in, is_count, is_empty, trimmed}
use Rattle.gds_elements.specs.Data.{points_of, is_closed, is_straight, has_length, side, goes_into}
use Rattle.gds_elements.specs.Data.{has_unit, real_in}
use Rattle.fixed_num.specs.Real.{is_one, quarter_of}
use Rattle.gds_elements.specs.Meaning.{opened, last_kind, open_points, columns_of, rows_of, Library}
use Rattle.gds_elements.specs.Meaning.{library_of}

-- a boundary has four points at least, the last of which is the first; a path has two neighbours
-- that differ
abbrev pub are_complete : ℕ → List Point → Bool
are_complete start points =
    if start == BOUNDARY then nat_le 4 (length points) && is_closed points
    else if start == PATH then has_length points
    else true

-- 5: the first record behind the points of an element whose points aren't complete
abbrev pub is_unfinished : ℕ → ℕ → List Point → ℕ → Bool
is_unfinished start last points kind =
    last == XY && not (kind == XY) && not (are_complete start points)

-- the form, the length and the plain content that each kind has: 0 no data, 1 bits, 2 two bytes
-- each, 3 four bytes each, 5 reals, 6 a string.
-- Those of options (REFLIBS and the like) aren't looked at
abbrev pub is_plain : ℕ → ℕ → List ℕ → Bool
is_plain kind form body =
    if kind == HEADER || kind == LAYER || kind == DATATYPE || kind == TEXTTYPE
    || kind == NODETYPE || kind == BOXTYPE || kind == PATHTYPE || kind == PROPATTR
    then form == 2 && length body == 2
    else if kind == COLROW then form == 2 && length body == 4
    else if kind == BGNLIB || kind == BGNSTR then form == 2 && length body == 24
    else if kind == PRESENTATION || kind == STRANS || kind == ELFLAGS
    then form == 1 && length body == 2
    else if kind == WIDTH || kind == PLEX || kind == BGNEXTN || kind == ENDEXTN
    then form == 3 && length body == 4
    else if kind == XY then form == 3
    else if kind == MAG || kind == ANGLE then form == 5 && length body == 8
    else if kind == UNITS then form == 5 && length body == 16
    else if kind == LIBNAME || kind == STRING || kind == PROPVALUE then form == 6
    else if kind == STRNAME || kind == SNAME then form == 6 && not (is_empty (trimmed body))
    else if kind == ENDLIB || kind == ENDSTR || kind == BOUNDARY || kind == PATH || kind == SREF
    || kind == AREF || kind == TEXT || kind == NODE || kind == BOX || kind == ENDEL
    then form == 0 && length body == 0
    else true

-- 5 where the points aren't as they must be, 6 where an edge is slanted
abbrev pub outline_fault : Bool → List Point → Option ℕ
outline_fault fits points = if not fits then Some 5 else if is_straight points then None else Some 6

-- the points of a boundary or a path: 5 where the data isn't whole points, or none, 14 where all
-- that it has with these are more than 1,000,000, 6 where an edge of these is slanted
abbrev pub line_fault : Bool → List Point → List Point → Option ℕ
line_fault whole so_far points =
    if not (whole && nat_le 1 (length points)) then Some 5
    else if nat_lt 1000000 (length so_far + length points) then Some 14
    else if is_straight (so_far ++ points) then None
    else Some 6

-- the points of each element, behind those so far, given whether the data is whole points
abbrev pub points_fault : ℕ → Bool → List Point → List Point → Option ℕ
points_fault start whole so_far points =
    if is_line start then line_fault whole so_far points
    else if start == BOX then outline_fault (whole && length points == 5 && is_closed points) points
    else if start == SREF || start == TEXT
    then (if whole && length points == 1 then None else Some 5)
    else if start == AREF then (if whole && length points == 3 then None else Some 5)
    else if whole && nat_le 1 (length points) then None
    else Some 5

-- 12: the columns or the rows don't go into their side
abbrev pub array_fault : ℕ → ℕ → ℕ → List ℕ → Option ℕ
array_fault start columns rows body =
    if start == AREF && not (goes_into columns (side body 8) && goes_into rows (side body 16))
    then Some 12
    else None

abbrev pub or_else : Option ℕ → Option ℕ → Option ℕ
or_else None b = b
or_else (Some a) b = Some a

-- 7 a round path, 5 another path type, 8 an odd width
abbrev pub path_fault : ℕ → List ℕ → Option ℕ
path_fault kind body =
    if kind == PATHTYPE
    then (if number body == 1 then Some 7
    else if number body == 0 || number body == 2 || number body == 4 then None
    else Some 5)
    else if kind == WIDTH then (if (unsigned_abs (long body) % 2) == 0 then None else Some 8)
    else None

-- 11 an absolute angle or magnification, 9 a magnification other than 1, 10 an angle that isn't
-- quarter turns
abbrev pub turn_fault : ℕ → List ℕ → Option ℕ
turn_fault kind body =
    if kind == STRANS then (if bit_and (number body) 6 == 0 then None else Some 11)
    else if kind == MAG then (if is_one (real_in body) then None else Some 9)
    else if kind == ANGLE then (if is_some (quarter_of (real_in body)) then None else Some 10)
    else None

-- the parts of the element that began so
abbrev pub part_fault : ℕ → ℕ → List ℕ → Option ℕ
part_fault start kind body =
    if start == PATH then path_fault kind body
    else if start == SREF || start == AREF then turn_fault kind body
    else None

-- the tests of content: 13 the database unit, 12 no column or no row, and those of the open element
abbrev pub content_fault : ℕ → List Point → ℕ → ℕ → ℕ → List ℕ → Option ℕ
content_fault start so_far columns rows kind body =
    if kind == UNITS then (if has_unit body then None else Some 13)
    else if kind == COLROW
    then (if is_count (columns_in body) && is_count (rows_in body) then None else Some 12)
    else if kind == XY
    then or_else (points_fault start ((length body % 8) == 0) so_far (points_of body))
    (array_fault start columns rows body)
    else part_fault start kind body

-- the first test that a record fails behind the records before it
abbrev pub fault_of : Records → Rec → Option ℕ
fault_of before r =
    if not (can_go_on before r.kind) then Some 4
    else if is_unfinished (opened before) (last_kind before) (open_points before) r.kind then Some 5
    else if not (is_plain r.kind r.form r.body) then Some 5
    else content_fault (opened before) (open_points before) (columns_of before) (rows_of before)
    r.kind r.body

-- each record passes: it has none of the faults behind the records before it
abbrev pub Passes : Records → Type 0
Passes NoRecords = Unit {0}
Passes (before ▸ r) = Passes before × IsRecord r × (fault_of before r ≡ None)

-- the fault of the place behind the records: of its frame, or of its record
pub data IsNextFault (before : Records) (rest : List ℕ) : ℕ → Type 0 where
  OfFrame : (number : ℕ) → framing rest ≡ Some number → IsNextFault before rest number
  OfRecord : (number : ℕ) (r : Rec) (more : List ℕ) → IsRecord r → rest ≡ record_bytes r ++ more
      → fault_of before r ≡ Some number → IsNextFault before rest number

-- the bytes begin with these records, each of which passes
pub record BeginsWith (bytes : List ℕ) (rs : Records) (rest : List ℕ) : Type 0 where
  pub whole : bytes ≡ bytes_of rs ++ rest
  pub passes : Passes rs

-- the bytes begin with records that pass, up to ENDLIB, and mean this library
abbrev pub Accepts : List ℕ → Library → Type 0
Accepts bytes value = (rs : Records) × (rest : List ℕ) × BeginsWith bytes rs rest × IsEnded rs
    × (library_of rs ≡ value)

-- some bytes are accepted as this library
abbrev pub IsAccepted : Library → Type 0
IsAccepted value = (bytes : List ℕ) × Accepts bytes value

-- the place behind so many records that pass has this fault, at this offset
pub record FirstFault (bytes : List ℕ) (number index offset : ℕ) : Type 0 where
  pub before : Records
  pub rest : List ℕ
  pub begins : BeginsWith bytes before rest
  pub goes_on : IsEnded before → ⊥
  pub index_is : index ≡ count_of before
  pub offset_is : offset ≡ length (bytes_of before)
  pub fault : IsNextFault before rest number
