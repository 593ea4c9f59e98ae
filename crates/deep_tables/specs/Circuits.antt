-- The circuits of cells.
use Rattle.std.specs.Prelude.{◌≡◌, ℕ, Bool, List, [], Option, Some, None, IsSome, length}
use Rattle.flat_layout.specs.Circuits.{AreCircuitCells, CircuitParts, IsCircuitCell}
use Rattle.flat_layout.specs.Expanded.{AreTablesRight, CircuitTables}
use Rattle.flat_layout.specs.GateTables.{GateEntry}
use Rattle.flat_layout.specs.Gates.{Rule}
use Rattle.flat_layout.specs.Layout.{Design, IsReached}
use Rattle.flat_layout.specs.Nets.{Tables}
use Rattle.flat_layout.specs.Order.{AreLevels}
use Rattle.flat_layout.specs.Pins as flat
use Rattle.flat_layout.specs.Values.{IsCellCircuitOf}
use Rattle.flat_layout.specs.Values as values
use Rattle.flat_layout.specs.Regions.{Wiring}
use Rattle.cell_graph.specs.Linked.{Linked, IsSound, plain}
use Rattle.plain_netlist.specs.Netlist.{Netlist, IsCircuit}
use Rattle.plain_netlist.specs.Netlist as netlist
use Rattle.net_model.specs.declared.netlist.Circuit.{Circuit}
use Rattle.net_model.specs.Rows.{plain_circuit}
use Rattle.rule_text.specs.Rules.{Rules}
use Rattle.rule_layers.specs.Meaning.{device_rules, wiring_of}
use Rattle.deep_tables.specs.Entries.{entry, AreEntries}
use Rattle.deep_tables.specs.Gates.{AreGates, AreRightGates, gates_of}
use Rattle.deep_tables.specs.Layers.{AreLayers}
use Rattle.deep_tables.specs.Nets.{AreNets, AreRightNets, tables_of}
use Rattle.deep_tables.specs.Pins.{ArePins, AreRightPins, pins_of}
use Rattle.deep_tables.specs.declared.circuits.CellCircuit.{CellCircuit}
use Rattle.deep_tables.specs.declared.gates.CellGates.{CellGates}
use Rattle.deep_tables.specs.declared.layers.CellLayers.{CellLayers}
use Rattle.deep_tables.specs.declared.nets.CellNets.{CellNets}
use Rattle.deep_tables.specs.declared.pins.CellPins.{CellPins}

-- circuits as plain values
abbrev pub plain_or_none : Option Circuit → Option netlist.Circuit
plain_or_none None = None
plain_or_none (Some c) = Some (plain_circuit c)

abbrev pub plain_value : CellCircuit → values.CellCircuit
plain_value v = record { drawn = v.drawn.items; circuit = plain_or_none v.circuit }

-- what a cell's circuit is made from: right nets, gates and pins of all cells, and the cells that
-- have circuits
pub record AreCircuitSources (d : Design) (w : Wiring) (t : Tables) (rules : List Rule)
    (gates : ℕ → List GateEntry) (pins : ℕ → flat.CellPins) (level : ℕ → ℕ)
    (cells : List ℕ) : Type 0 where
  pub nets : AreRightNets d w t
  pub gates_right : AreRightGates d w t rules gates
  pub pins_right : AreRightPins d w t gates pins
  pub levels : AreLevels d level
  pub cells_right : AreCircuitCells d level gates cells

-- the drawn nets and the circuit of a cell, right over all of these, and over all drawn nets that
-- are right below
abbrev pub IsCellCircuit : ℕ → Design → Rules → ℕ → CellCircuit → Type 0
IsCellCircuit unit d r cell v = (t : Tables) (gates : ℕ → List GateEntry) (pins : ℕ → flat.CellPins)
    (level : ℕ → ℕ) (cells : List ℕ)
    → AreCircuitSources d (wiring_of r) t (device_rules r) gates pins level cells
    → IsCellCircuitOf d t gates pins (device_rules r) unit cells cell (plain_value v)

-- each reached cell has its circuit or none
abbrev pub AreCircuits : ℕ → Design → Rules → List (Option CellCircuit) → Type 0
AreCircuits unit d r table = AreEntries d (IsCellCircuit unit d r) table

abbrev pub circuit_of : Option CellCircuit → Option (Option Circuit)
circuit_of None = None
circuit_of (Some v) = Some v.circuit

abbrev pub circuit_at : List (Option CellCircuit) → ℕ → Option (Option Circuit)
circuit_at table cell = circuit_of (entry table cell)

abbrev pub drawn_of : Option CellCircuit → Option (List Bool)
drawn_of None = None
drawn_of (Some v) = Some v.drawn.items

abbrev pub drawn_at : List (Option CellCircuit) → ℕ → Option (List Bool)
drawn_at table cell = drawn_of (entry table cell)

abbrev pub value_in : Option CellCircuit → values.CellCircuit
value_in None = record { drawn = []; circuit = None }
value_in (Some v) = plain_value v

-- what the table says
abbrev pub value_of : List (Option CellCircuit) → ℕ → values.CellCircuit
value_of table cell = value_in (entry table cell)

-- the circuits of the table are the netlist, in the order of these cells
pub record IsNetlistIn (table : List (Option CellCircuit)) (cells : List ℕ)
    (nl : Netlist) : Type 0 where
  pub count : length nl.circuits ≡ length cells
  pub each : (n cell : ℕ) (c : netlist.Circuit) → IsCircuitCell cells n cell → IsCircuit nl n c
      → (value_of table cell).circuit ≡ Some c

-- all tables, each right by itself
pub record AreAllTables (unit : ℕ) (d : Design) (r : Rules) (layers : List (Option CellLayers))
    (nets : List (Option CellNets)) (gates : List (Option CellGates))
    (pins : List (Option CellPins)) (circuits : List (Option CellCircuit)) : Type 0 where
  pub are_layers : AreLayers d r layers
  pub are_nets : AreNets d r nets
  pub are_gates : AreGates d r gates
  pub are_pins : ArePins d r pins
  pub are_circuits : AreCircuits unit d r circuits

abbrev pub circuit_tables : List (Option CellGates) → List (Option CellPins)
    → List (Option CellCircuit) → List ℕ → (ℕ → CircuitParts) → CircuitTables
circuit_tables gates pins circuits cells parts = record {
  gates = gates_of gates;
  pins = pins_of pins;
  drawn = λ cell. (value_of circuits cell).drawn;
  cells = cells;
  parts = parts;
}

-- are right together, and their circuits in the design's order are the netlist of the layout
abbrev pub AllTablesLaw : Type 0
AllTablesLaw = (unit : ℕ) (d : Linked) (r : Rules) (layers : List (Option CellLayers))
    (nets : List (Option CellNets)) (gates : List (Option CellGates))
    (pins : List (Option CellPins)) (circuits : List (Option CellCircuit))
    (level : ℕ → ℕ) (cells : List ℕ) (nl : Netlist) → IsSound d → AreLevels (plain d) level
    → AreAllTables unit (plain d) r layers nets gates pins circuits
    → AreCircuitCells (plain d) level (gates_of gates) cells → IsNetlistIn circuits cells nl
    → (parts : ℕ → CircuitParts) × AreTablesRight (plain d) (wiring_of r) (tables_of r layers nets)
    (circuit_tables gates pins circuits cells parts) nl (device_rules r) unit level

-- and the accessors' condition is met at each reached cell
abbrev pub CircuitsAtLaw : Type 0
CircuitsAtLaw = (unit : ℕ) (d : Design) (r : Rules) (table : List (Option CellCircuit)) (cell : ℕ)
    → AreCircuits unit d r table → IsReached d cell → IsSome (entry table cell)
