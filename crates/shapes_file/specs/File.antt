-- What the command `shapes` writes of a layout, and what its summary line counts.
use Rattle.std.specs.Prelude.{◌≡◌, ℕ, List, Option, Some, None, length}
use Rattle.std.specs.List.{sum_by}
use Rattle.cell_graph.specs.Linked.{plain}
use Rattle.deep_tables.specs.Layers.{AreLayers}
use Rattle.deep_tables.specs.declared.layers.CellLayers.{CellLayers}
use Rattle.gds_layout.specs.declared.layout.Layout.{Layout}
use Rattle.layout_shapes.specs.Wide.{IsFirstWide}
use Rattle.layout_shapes.specs.Written.{IsWritten, line_of}
use Rattle.rule_text.specs.Rules.{Rules}
use Rattle.shapes_file.specs.declared.file.Drawing.{Drawing}
use Rattle.shapes_file.specs.declared.file.Drawing.TheVariants.{Whole, Wide}

-- the rectangles of a cell's output lines
abbrev pub count_in : List (Option CellLayers) → Rules → ℕ → ℕ
count_in table r cell = sum_by (λ o. length (line_of table cell o).1) r.outputs

-- no cell is too wide for a stream, and the text is the stream of the reached cells with the squares
-- that each holds itself of the rules' names; so many cells and so many rectangles stand in it
pub record IsShapesFile (l : Layout) (r : Rules) (text : List ℕ) (cells rectangles : ℕ) :
    Type 0 where
  pub table : List (Option CellLayers)
  pub layers : AreLayers (plain l.design) r table
  pub narrow : IsFirstWide l.design r table None
  pub written : IsWritten l r table text
  pub cell_count : cells ≡ length written.cells
  pub rectangle_count : rectangles ≡ sum_by (count_in table r) written.cells

-- the layout has a shapes file: no cell is too wide for one
pub record IsNarrow (l : Layout) (r : Rules) : Type 0 where
  pub table : List (Option CellLayers)
  pub layers : AreLayers (plain l.design) r table
  pub narrow : IsFirstWide l.design r table None

-- the layout has none: this cell is the first that is too wide
pub record IsWide (l : Layout) (r : Rules) (cell : ℕ) : Type 0 where
  pub table : List (Option CellLayers)
  pub layers : AreLayers (plain l.design) r table
  pub first : IsFirstWide l.design r table (Some cell)

-- the layout's shapes file, or the cell for which it has none
abbrev pub IsDrawing : Layout → Rules → Drawing → Type 0
IsDrawing l r (Whole s) = IsShapesFile l r s.text.items s.cells s.rectangles
IsDrawing l r (Wide cell) = IsWide l r cell
