-- A chip's layout as a stream (GDSII Stream Format, Release 6).
use Rattle.std.specs.Prelude.{ℕ, List, [], ◌∷◌, ◌++◌, codes, replicate}
use Rattle.std.specs.List.{flat_map}
use Rattle.geo_base.specs.declared.layer.LayerKey.{LayerKey}
use Rattle.geo_base.specs.declared.shapes.Rect.{Rect}
use Rattle.gds_records.specs.Records.{Rec, record_bytes}
use Rattle.gds_records.specs.Kinds.{BGNSTR, STRNAME, ENDSTR, ENDLIB, TEXT, LAYER, TEXTTYPE, STRING}
use Rattle.gds_records.specs.Kinds.{ENDEL}
use Rattle.gds_elements.specs.Meaning.{Text, Ref}
use Rattle.gds_shapes.specs.Data.{bare, numbers, number, string}
use Rattle.gds_shapes.specs.References.{points, reference}
use Rattle.gds_shapes.specs.Stream.{Heading, boundary, header}
use Rattle.chip_maker.specs.Inverters.{rows}
use Rattle.chip_maker.specs.Layout.{Block, blocks}
use Rattle.chip_maker.specs.declared.inverters.Kind.{Kind}

-- records one behind another
abbrev pub bytes_of : List Rec → List ℕ
bytes_of records = flat_map record_bytes records

unfoldable pub rect_bytes : LayerKey → Rect → List ℕ
rect_bytes key r = bytes_of (boundary key r)

-- a layer: its rectangles in order
abbrev pub layer_bytes : LayerKey × List Rect → List ℕ
layer_bytes l = flat_map (rect_bytes l.0) l.1

-- a text as an element
abbrev pub text_records : Text → List Rec
text_records t =
    bare TEXT ∷ number LAYER t.key.layer ∷ number TEXTTYPE t.key.datatype ∷ points (t.at ∷ [])
    ∷ string STRING t.text ∷ bare ENDEL ∷ []

unfoldable pub text_bytes : Text → List ℕ
text_bytes t = bytes_of (text_records t)

unfoldable pub ref_bytes : Ref → List ℕ
ref_bytes r = bytes_of (reference r)

-- no date
abbrev pub no_dates : List ℕ
no_dates = replicate 24 0

-- how a cell begins
abbrev pub start_bytes : List ℕ → List ℕ
start_bytes name = bytes_of (numbers BGNSTR no_dates ∷ string STRNAME name ∷ [])

-- a cell: its layers, its texts and its references, each in order
unfoldable pub block_bytes : Block → List ℕ
block_bytes b =
    start_bytes b.name ++ (flat_map layer_bytes b.layers ++ (flat_map text_bytes b.texts
    ++ (flat_map ref_bytes b.refs ++ record_bytes (bare ENDSTR))))

-- version 600, a library `CHIP`, and a database unit of a nanometre
abbrev pub chip_heading : Heading
chip_heading = record {
  version = 0x02 ∷ 0x58 ∷ [];
  dates = no_dates;
  name = codes "CHIP";
  units = 0x3E ∷ 0x41 ∷ 0x89 ∷ 0x37 ∷ 0x4B ∷ 0xC6 ∷ 0xA7 ∷ 0xF0 ∷ 0x39 ∷ 0x44 ∷ 0xB8 ∷ 0x2F
      ∷ 0xA0 ∷ 0x9B ∷ 0x5A ∷ 0x54 ∷ [];
}

-- the library of the cells
abbrev pub stream_of : List (List Kind) → List ℕ
stream_of rows = bytes_of (header chip_heading) ++ (flat_map block_bytes (blocks rows)
    ++ record_bytes (bare ENDLIB))

abbrev pub chip_stream : ℕ → ℕ → List ℕ
chip_stream n seed = stream_of (rows n seed)
