-- The nets of cells.
use Rattle.std.specs.Prelude.{ℕ, List, [], Option, Some, None, IsSome, map, if◌then◌else◌}
use Rattle.geo_base.specs.declared.shapes.Rect.{Rect}
use Rattle.flat_layout.specs.Layout.{Design, Place, IsPlaced, IsReached}
use Rattle.flat_layout.specs.Nets as flat
use Rattle.flat_layout.specs.Nets.{AreRightBelow, IsNetsOf, IsUnder, Tables}
use Rattle.flat_layout.specs.Regions.{Wiring, formula}
use Rattle.flat_layout.specs.Values.{IsLocalLayer}
use Rattle.cell_graph.specs.Linked.{Linked, IsSound, plain}
use Rattle.rule_text.specs.Reading.{is_conductor}
use Rattle.rule_text.specs.Rules.{Rules}
use Rattle.rule_layers.specs.Meaning.{wiring_of}
use Rattle.deep_tables.specs.Entries.{entry, AreEntries}
use Rattle.deep_tables.specs.Layers.{AreLayers, layer_of}
use Rattle.deep_tables.specs.declared.layers.CellLayers.{CellLayers}
use Rattle.deep_tables.specs.declared.nets.CellNets.{CellNets}
use Rattle.deep_tables.specs.declared.nets.Item.{Item}
use Rattle.deep_tables.specs.declared.nets.Item.TheVariants.{Own, Child, Global}

-- nets as plain values
abbrev pub plain_item : Item → flat.Item
plain_item (Own c r) = flat.Own c r
plain_item (Child k b) = flat.Child k b
plain_item (Global g) = flat.Global g

abbrev pub plain_nets : CellNets → flat.CellNets
plain_nets v = record {
  items = map plain_item v.items.items;
  net_of = v.net_of.items;
  count = v.count;
}

-- the nets of a cell are right over all layers and nets that are right below it
abbrev pub AreCellNets : Design → Rules → ℕ → CellNets → Type 0
AreCellNets d r cell v = IsNetsOf d (wiring_of r) cell (plain_nets v)

-- each reached cell has its nets
abbrev pub AreNets : Design → Rules → List (Option CellNets) → Type 0
AreNets d r table = AreEntries d (AreCellNets d r) table

abbrev pub nets_in : Option CellNets → flat.CellNets
nets_in None = record { items = []; net_of = []; count = 0 }
nets_in (Some v) = plain_nets v

abbrev pub rects_in : Option (List Rect) → List Rect
rects_in None = []
rects_in (Some rects) = rects

-- what the table of layers says: the rectangles that each cell holds itself of each conductor
abbrev pub own_of : Rules → List (Option CellLayers) → ℕ → ℕ → List Rect
own_of r layers cell c = if is_conductor c r then rects_in (layer_of layers cell c) else []

-- and with it the table of nets
abbrev pub tables_of : Rules → List (Option CellLayers) → List (Option CellNets) → Tables
tables_of r layers nets = record {
  own = own_of r layers;
  nets = λ cell. nets_in (entry nets cell);
}

-- each reached cell's own rectangles and nets are right
pub record AreRightNets (d : Design) (w : Wiring) (t : Tables) : Type 0 where
  pub own : (cell c : ℕ) → IsReached d cell → IsLocalLayer d (formula w c) cell (t.own cell c)
  pub nets : (cell : ℕ) → IsReached d cell → IsNetsOf d w cell (t.nets cell)

-- right layers and right nets are right together
abbrev pub RightNetsLaw : Type 0
RightNetsLaw = (d : Design) (r : Rules) (layers : List (Option CellLayers))
    (nets : List (Option CellNets)) → AreLayers d r layers → AreNets d r nets
    → AreRightNets d (wiring_of r) (tables_of r layers nets)

-- and the accessor's condition is met at each reached cell
abbrev pub NetsAtLaw : Type 0
NetsAtLaw = (d : Design) (r : Rules) (table : List (Option CellNets)) (cell : ℕ) → AreNets d r table
    → IsReached d cell → IsSome (entry table cell)

-- right layers, and nets that are right by themselves in each cell below, are tables that are right
-- below the cell: over these a job works
abbrev pub ReadNetsLaw : Type 0
ReadNetsLaw = (d : Linked) (r : Rules) (layers : List (Option CellLayers)) (cell : ℕ)
    (nets : ℕ → flat.CellNets) → IsSound d → AreLayers (plain d) r layers → IsReached (plain d) cell
    → ((k e : ℕ) (p : Place) → IsPlaced (plain d) cell k p → IsUnder (plain d) p.cell e
    → IsNetsOf (plain d) (wiring_of r) e (nets e))
    → AreRightBelow (plain d) (wiring_of r) (record { own = own_of r layers; nets = nets }) cell
