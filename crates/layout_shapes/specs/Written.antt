-- What is written of a layout: the cells that the top reaches, each with its references and with
-- what it holds of the rules' output lines itself.
use Rattle.std.specs.Prelude.{◌≡◌, ◌↔◌, ℕ, List, [], map, get_or, Option, Some, None, Contains}
use Rattle.std.specs.List.Sorted.{IsStrictlyIncreasing}
use Rattle.geo_base.specs.declared.layer.LayerKey.{LayerKey}
use Rattle.geo_base.specs.declared.shapes.Rect.{Rect}
use Rattle.flat_layout.specs.Layout.{IsReached}
use Rattle.cell_graph.specs.Linked.{Linked, plain, cell_at, places_at}
use Rattle.cell_graph.specs.declared.cells.Place.{Place}
use Rattle.cell_graph.specs.declared.cells.CellPart.{CellPart}
use Rattle.rule_text.specs.declared.rules.Output.{Output}
use Rattle.rule_text.specs.Rules.{Rules}
use Rattle.deep_tables.specs.Layers.{layer_of}
use Rattle.deep_tables.specs.declared.layers.CellLayers.{CellLayers}
use Rattle.gds_elements.specs.Meaning.{Ref}
use Rattle.gds_elements.specs.Faults.{Accepts}
use Rattle.gds_layout.specs.declared.layout.Header.{Header}
use Rattle.gds_layout.specs.declared.layout.Layout.{Layout}
use Rattle.gds_shapes.specs.Stream.{Heading, Drawn, library_bytes}
use Rattle.gds_shapes.specs.Accepted.{library_read}

-- what stands before the cells
abbrev pub heading_of : Header → Heading
heading_of h = record { version = h.version; dates = h.dates; name = h.name.items; units = h.units }

abbrev pub name_of : Option CellPart → List ℕ
name_of None = []
name_of (Some c) = c.name

-- a reference, by the name of the cell that it places
abbrev pub ref_of : Linked → Place → Ref
ref_of d p = record {
  cell = name_of (cell_at d p.cell);
  motion = p.motion;
  columns = p.columns;
  rows = p.rows;
  column_step = p.column_step;
  row_step = p.row_step;
}

abbrev pub squares_of : Option (List Rect) → List Rect
squares_of None = []
squares_of (Some v) = v

-- what a cell holds itself of an output line, on the line's layer
abbrev pub line_of : List (Option CellLayers) → ℕ → Output → LayerKey × List Rect
line_of table cell o = (o.key, squares_of (layer_of table cell o.layer))

-- a cell as it is written: its references in order, then the output lines in order
abbrev pub drawn : Layout → Rules → List (Option CellLayers) → ℕ → Drawn
drawn l r table cell = record {
  dates = get_or l.cell_dates.items cell [];
  name = name_of (cell_at l.design cell);
  refs = map (ref_of l.design) (places_at (cell_at l.design cell));
  layers = map (line_of table cell) r.outputs;
}

-- exactly the cells that the top reaches, in the order of the file
pub record AreReached (d : Linked) (cells : List ℕ) : Type 0 where
  pub each : (cell : ℕ) → Contains cells cell ↔ IsReached (plain d) cell
  pub ascending : IsStrictlyIncreasing cells

-- the text is the stream of the reached cells, and is read as exactly these
pub record IsWritten (l : Layout) (r : Rules) (table : List (Option CellLayers)) (text : List ℕ) :
    Type 0 where
  pub cells : List ℕ
  pub reached : AreReached l.design cells
  pub exact : text ≡ library_bytes (heading_of l.header) (map (drawn l r table) cells)
  pub accepted : Accepts text (library_read (heading_of l.header) (map (drawn l r table) cells))
