-- The squares that cells hold themselves.
use Rattle.std.specs.Prelude.{◌≡◌, ℕ, List, [], Option, Some, None, length, slice_get}
use Rattle.geo_base.specs.declared.shapes.Rect.{Rect}
use Rattle.flat_layout.specs.Layers.{Formula, Empty}
use Rattle.flat_layout.specs.Layout.{Design, IsReached}
use Rattle.flat_layout.specs.Values.{IsLocalLayer}
use Rattle.rule_text.specs.Rules.{Rules}
use Rattle.rule_layers.specs.Formulas.{formulas}
use Rattle.deep_tables.specs.Entries.{entry, AreEntries}
use Rattle.deep_tables.specs.declared.layers.CellLayers.{CellLayers}

-- for each name of the rules, the squares that the cell holds itself
pub record AreCellLayers (d : Design) (r : Rules) (cell : ℕ) (v : CellLayers) : Type 0 where
  pub names : length v.layers.items ≡ length (formulas r.names)
  pub layers : (i : ℕ) (x : Formula) (layer : List Rect) → slice_get (formulas r.names) i ≡ Some x
      → slice_get v.layers.items i ≡ Some layer → IsLocalLayer d x cell layer

-- each reached cell has the squares that it holds itself
abbrev pub AreLayers : Design → Rules → List (Option CellLayers) → Type 0
AreLayers d r table = AreEntries d (AreCellLayers d r) table

-- the squares of an entry for a name
abbrev pub squares_on : Option CellLayers → ℕ → Option (List Rect)
squares_on None layer = None
squares_on (Some v) layer = slice_get v.layers.items layer

abbrev pub layer_of : List (Option CellLayers) → ℕ → ℕ → Option (List Rect)
layer_of table cell layer = squares_on (entry table cell) layer

-- so the accessor's condition is met at each reached cell, for each name of the rules
abbrev pub LayerAtLaw : Type 0
LayerAtLaw = (d : Design) (r : Rules) (table : List (Option CellLayers)) (cell i : ℕ) (x : Formula)
    → AreLayers d r table → IsReached d cell
    → slice_get (formulas r.names) i ≡ Some x → (layer : List Rect)
    × (layer_of table cell i ≡ Some layer) × IsLocalLayer d x cell layer

-- an empty layer, and a labels name, has no squares
abbrev pub EmptyLayerLaw : Type 0
EmptyLayerLaw = (d : Design) (cell : ℕ) → IsLocalLayer d Empty cell []
