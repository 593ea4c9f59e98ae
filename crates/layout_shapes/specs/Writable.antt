-- Layouts that a stream has room for, and what they are read as.
use Rattle.std.specs.Prelude.{◌≡◌, ℕ, ◌<◌, List, [], ◌∷◌, length, Option, Some, IsSome, slice_get}
use Rattle.std.specs.List.{All}
use Rattle.flat_layout.specs.Arrays.{Reference, places_of}
use Rattle.flat_layout.specs.Layout.{IsHeight, IsReached}
use Rattle.geo_base.specs.Layers.{IsStreamKey}
use Rattle.geo_base.specs.Near.{IsLongRect}
use Rattle.cell_graph.specs.Linked.{Linked, reference, cell_at, height_at, places_at, plain}
use Rattle.cell_graph.specs.declared.cells.Place.{Place}
use Rattle.cell_graph.specs.declared.cells.CellPart.{CellPart}
use Rattle.rule_text.specs.declared.rules.Output.{Output}
use Rattle.rule_text.specs.Rules.{Rules}
use Rattle.deep_tables.specs.Layers.{layer_of}
use Rattle.deep_tables.specs.declared.layers.CellLayers.{CellLayers}
use Rattle.gds_elements.specs.Meaning.{Ref}
use Rattle.gds_layout.specs.declared.layout.Layout.{Layout}
use Rattle.gds_shapes.specs.Data.{IsData, IsNamed}
use Rattle.gds_shapes.specs.References.{reference_read, FitsReference}
use Rattle.gds_shapes.specs.Accepted.{IsHeading}
use Rattle.layout_shapes.specs.Written.{heading_of, name_of, ref_of, line_of, drawn}

-- a cell whose name and references have room in their records
pub record IsWritableCell (d : Linked) (c : CellPart) : Type 0 where
  pub name : IsNamed c.name
  pub refs : All (λ p. FitsReference (ref_of d p)) c.places.items

-- a header as a stream has it, the dates of each cell, and such cells
pub record IsWritable (l : Layout) : Type 0 where
  pub heading : IsHeading (heading_of l.header)
  pub count : length l.cell_dates.items ≡ length l.design.cells
  pub dates : All (IsData 24) l.cell_dates.items
  pub each : (i : ℕ) (c : CellPart) → slice_get l.design.cells i ≡ Some c
      → IsWritableCell l.design c

-- no two cells that the top reaches have one name
abbrev pub HaveOwnNames : Linked → Type 0
HaveOwnNames d = (j k : ℕ) → IsReached (plain d) j → IsReached (plain d) k
    → name_of (cell_at d j) ≡ name_of (cell_at d k) → j ≡ k

-- a stream has room for it, no name in it means two cells, and no cell stands below itself
pub record FitsStream (l : Layout) : Type 0 where
  pub room : IsWritable l
  pub names : HaveOwnNames l.design
  pub heights : IsHeight (plain l.design) (height_at l.design)

-- the table has what the cell holds of an output line, and that and the line's layer have room
pub record CanWriteLine (table : List (Option CellLayers)) (cell : ℕ) (o : Output) : Type 0 where
  pub key : IsStreamKey o.key
  pub held : IsSome (layer_of table cell o.layer)
  pub long : All IsLongRect (line_of table cell o).1

-- a cell is there, with its dates and with what it holds of each output line; all that is written
-- of it has room
pub record CanWriteCell (l : Layout) (r : Rules) (table : List (Option CellLayers)) (cell : ℕ) :
    Type 0 where
  pub inside : cell < length l.design.cells
  pub dated : cell < length l.cell_dates.items
  pub dates : IsData 24 (drawn l r table cell).dates
  pub name : IsNamed (drawn l r table cell).name
  pub refs : All (λ p. FitsReference (ref_of l.design p)) (places_at (cell_at l.design cell))
  pub lines : All (CanWriteLine table cell) r.outputs

-- a reference that was read, placing the cell of a number
abbrev pub placing : ℕ → Ref → Reference
placing cell r = record {
  cell = cell;
  turn = r.motion.turn;
  origin = record { x = r.motion.dx; y = r.motion.dy };
  columns = r.columns;
  rows = r.rows;
  column_step = r.column_step;
  row_step = r.row_step;
}

-- what is written of a reference is read with the same placements in the same order
abbrev pub PlacesLaw : Type 0
PlacesLaw = (d : Linked) (p : Place)
    → places_of (placing p.cell (reference_read (ref_of d p)) ∷ []) ≡ places_of (reference p ∷ [])
