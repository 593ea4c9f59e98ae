-- What the structures of a library are as cells that are to be linked.
use Rattle.std.specs.Prelude.{◌≡◌, true, List, [], ◌∷◌, map}
use Rattle.std.specs.List.{All, list_any}
use Rattle.geo_base.specs.Layers.{is_same_key}
use Rattle.geo_base.specs.declared.layer.LayerKey.{LayerKey}
use Rattle.geo_base.specs.declared.shapes.Square.{Square}
use Rattle.rect_sets.specs.Rects.{covers, IsCanonical}
use Rattle.cell_graph.specs.declared.cells.OwnLayer.{OwnLayer}
use Rattle.cell_graph.specs.declared.cells.RawText.{RawText}
use Rattle.cell_graph.specs.declared.drafts.DraftRef.{DraftRef}
use Rattle.cell_graph.specs.declared.drafts.CellDraft.{CellDraft}
use Rattle.cell_graph.specs.Linked.{layer_keys}
use Rattle.plain_netlist.specs.Lists.{AreApart}
use Rattle.gds_elements.specs.Meaning.{Shape, Text, Ref, Cell}
use Rattle.gds_layout.specs.declared.drafts.Drawn.{Drawn}
use Rattle.gds_layout.specs.Shapes.{shapes_cover, is_drawn, keys_behind}

-- the canonical list of exactly the squares that the shapes on its key cover, at least one of which
-- is there
pub record IsLayerOf (shapes : List Shape) (layer : OwnLayer) : Type 0 where
  pub drawn : is_drawn shapes layer.key ≡ true
  pub canonical : IsCanonical layer.set
  pub squares : (s : Square) → covers layer.set s ≡ shapes_cover shapes layer.key s

-- one layer for each key on which there is a shape, in the order in which the keys first come
pub record AreLayersOf (shapes : List Shape) (layers : List OwnLayer) : Type 0 where
  pub keys : layer_keys layers ≡ keys_behind [] shapes
  pub apart : AreApart (layer_keys layers)
  pub each : All (IsLayerOf shapes) layers
  pub all : (key : LayerKey) → is_drawn shapes key ≡ true
      → list_any (λ layer. is_same_key layer.key key) layers ≡ true

-- a text and a reference, as the stream has them
abbrev pub text_of : RawText → Text
text_of t = record { key = t.key; at = t.at; text = t.text.items }

abbrev pub ref_of : DraftRef → Ref
ref_of r = record {
  cell = r.cell;
  motion = r.motion;
  columns = r.columns;
  rows = r.rows;
  column_step = r.column_step;
  row_step = r.row_step;
}

-- the cell that a structure draws: its name, its layers, its texts and references in order
pub record IsDraftOf (c : Cell) (d : CellDraft) : Type 0 where
  pub name : d.name ≡ c.name
  pub layers : AreLayersOf c.shapes d.layers.items
  pub texts : map text_of d.texts.items ≡ c.texts
  pub refs : map ref_of d.refs.items ≡ c.refs

-- the structures' cells, in order
abbrev pub AreDraftsOf : List Cell → List CellDraft → Type 0
AreDraftsOf [] [] = Unit {0}
AreDraftsOf (c ∷ cells) (d ∷ drafts) = IsDraftOf c d × AreDraftsOf cells drafts
AreDraftsOf _ _ = ⊥

-- the cells that the structures draw, with the structures' dates
pub record AreDrawn (cells : List Cell) (d : Drawn) : Type 0 where
  pub drafted : AreDraftsOf cells d.cells.items
  pub dated : d.dates.items ≡ map (λ c. c.dates) cells
