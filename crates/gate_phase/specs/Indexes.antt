-- What cells hold themselves, looked into by windows.
use Rattle.std.specs.Prelude.{◌≡◌, ℕ, true, List, [], Option, Some, None, get_or, map}
use Rattle.std.specs.Global.{Vec}
use Rattle.geo_base.specs.Rects.{has}
use Rattle.geo_base.specs.declared.shapes.Rect.{Rect}
use Rattle.geo_base.specs.declared.shapes.Square.{Square}
use Rattle.rect_sets.specs.Rects.{IsListed, covers}
use Rattle.flat_layout.specs.Layout.{Design}
use Rattle.rule_text.specs.Reaches.{reaches}
use Rattle.rule_text.specs.Rules.{Rules}
use Rattle.deep_tables.specs.Layers.{AreLayers, layer_of}
use Rattle.deep_tables.specs.declared.layers.CellLayers.{CellLayers}
use Rattle.gate_phase.specs.declared.indexes.IndexedLayers.TheInside.{Inside}

-- what cells hold themselves, and how far each name reaches
pub record LayersOf : Type 0 where
  pub table : List (Option CellLayers)
  pub reaches : List ℕ

abbrev pub layers_of : Inside → LayersOf
layers_of a = record { table = a.layers.now; reaches = a.reaches.items }

-- right for the rules
pub record AreLayersOf (d : Design) (r : Rules) (x : LayersOf) : Type 0 where
  pub table : AreLayers d r x.table
  pub reaches : x.reaches ≡ reaches r.names

-- rectangles of a list, among them all that share a square with the window
pub record AreMetOf (rects : List Rect) (window : Rect) (met : List Rect) : Type 0 where
  pub listed : (r : Rect) → IsListed r met → IsListed r rects
  pub complete : (q : Square) → covers rects q ≡ true → has window q ≡ true → covers met q ≡ true

-- each index is of what the cell holds itself of the name
abbrev pub AreIndexes : List (Option CellLayers) → ℕ → List (Option (List Rect)) → Type 0
AreIndexes layers cell indexes = (name : ℕ) (rects : List Rect)
    → get_or indexes name None ≡ Some rects → layer_of layers cell name ≡ Some rects

abbrev pub index_lists : List (Vec (Option (List Rect))) → List (List (Option (List Rect)))
index_lists all = map (λ v. v.items) all

-- the index of a cell and a name; past the last there is none
abbrev pub index_in : List (List (Option (List Rect))) → ℕ → ℕ → Option (List Rect)
index_in all cell name = get_or (get_or all cell []) name None

abbrev pub AreAllIndexes : List (Option CellLayers) → List (List (Option (List Rect))) → Type 0
AreAllIndexes layers all = (cell : ℕ) → AreIndexes layers cell (get_or all cell [])

pub record IsIndexedTable (a : Inside) : Type 0 where
  pub right : AreAllIndexes a.layers.now (index_lists a.indexes.items)
