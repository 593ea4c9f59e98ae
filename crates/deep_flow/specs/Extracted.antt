-- What is extracted from a layout: its netlist is that of the cells' circuits, which stand in the
-- design's order, over right layers, nets, gates and pins.
use Rattle.std.specs.Prelude.{◌≡◌, ◌<◌, ◌^◌, ℕ, List, Option, Some, length, slice_get}
use Rattle.cell_graph.specs.Linked.{Linked, height_at, plain}
use Rattle.deep_tables.specs.Gates.{gates_of}
use Rattle.deep_tables.specs.Nets.{tables_of}
use Rattle.deep_tables.specs.Pins.{pins_of}
use Rattle.deep_tables.specs.declared.circuits.CellCircuit.{CellCircuit}
use Rattle.deep_tables.specs.declared.gates.CellGates.{CellGates}
use Rattle.deep_tables.specs.declared.layers.CellLayers.{CellLayers}
use Rattle.deep_tables.specs.declared.nets.CellNets.{CellNets}
use Rattle.deep_tables.specs.declared.pins.CellPins.{CellPins}
use Rattle.flat_layout.specs.Circuits.{IsCircuitCell}
use Rattle.flat_layout.specs.Expanded.{AreTablesRight, CircuitTables}
use Rattle.plain_netlist.specs.Netlist.{Netlist}
use Rattle.rule_layers.specs.Meaning.{device_rules, wiring_of}
use Rattle.rule_text.specs.Rules.{Rules}

-- the netlist has a circuit for each cell that is the top or has a good gate in or below it, in the
-- design's order; the top's is circuit top
pub record IsNetlistOfCells (unit : ℕ) (d : Linked) (r : Rules) (layers : List (Option CellLayers))
    (nets : List (Option CellNets)) (gates : List (Option CellGates))
    (pins : List (Option CellPins)) (nl : Netlist) (top : ℕ) : Type 0 where
  pub tables : CircuitTables
  pub gates_are : tables.gates ≡ gates_of gates
  pub pins_are : tables.pins ≡ pins_of pins
  pub right : AreTablesRight (plain d) (wiring_of r) (tables_of r layers nets) tables nl
      (device_rules r) unit (height_at d)
  pub top_is : IsCircuitCell tables.cells top (plain d).top

-- each cell has fewer than 2^32 nets
abbrev pub HaveFewNets : List CellCircuit → Type 0
HaveFewNets values = (k : ℕ) (v : CellCircuit) → slice_get values k ≡ Some v
    → length v.drawn.items < 2 ^ 32
