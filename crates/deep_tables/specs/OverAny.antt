-- What is right over one choice of right tables is right over all: so a phase finds the value of a
-- cell over the tables that it has.
use Rattle.std.specs.Prelude.{◌≡◌, ℕ, List}
use Rattle.flat_layout.specs.GateTables.{GateEntry}
use Rattle.flat_layout.specs.GateTables as gates
use Rattle.flat_layout.specs.Layout.{IsReached}
use Rattle.flat_layout.specs.Nets.{AreNets, AreRightBelow, CellNets, IsNetsOf, Tables}
use Rattle.flat_layout.specs.Pins.{ArePinsOf, CellPins}
use Rattle.flat_layout.specs.Regions.{Wiring}
use Rattle.flat_layout.specs.Values.{CellCircuit, IsCellCircuitOf}
use Rattle.cell_graph.specs.Linked.{Linked, IsSound, plain}
use Rattle.rule_text.specs.Rules.{Rules}
use Rattle.rule_layers.specs.Meaning.{device_rules, wiring_of}
use Rattle.deep_tables.specs.Circuits.{AreCircuitSources}
use Rattle.deep_tables.specs.Gates.{AreRightGates}
use Rattle.deep_tables.specs.Nets.{AreRightNets}

-- two tables say the same of a cell
pub record AgreeOn (s t : Tables) (cell : ℕ) : Type 0 where
  pub own : (c : ℕ) → s.own cell c ≡ t.own cell c
  pub nets : s.nets cell ≡ t.nets cell

-- right tables say the same of each reached cell
abbrev pub OneTablesLaw : Type 0
OneTablesLaw = (d : Linked) (w : Wiring) (s t : Tables) → IsSound d → AreRightNets (plain d) w s
    → AreRightNets (plain d) w t → (cell : ℕ) → IsReached (plain d) cell → AgreeOn s t cell

-- nets that are right over one choice of tables that are right below
abbrev pub NetsOverAnyLaw : Type 0
NetsOverAnyLaw = (d : Linked) (w : Wiring) (s : Tables) (cell : ℕ) (v : CellNets) → IsSound d
    → AreRightBelow (plain d) w s cell → AreNets (plain d) w s cell v → IsNetsOf (plain d) w cell v

-- over right nets a cell has one list of gates
abbrev pub OneGatesLaw : Type 0
OneGatesLaw = (d : Linked) (r : Rules) (t : Tables) (cell : ℕ) (v z : List GateEntry) → IsSound d
    → AreRightNets (plain d) (wiring_of r) t → IsReached (plain d) cell
    → gates.AreGates (plain d) (wiring_of r) t (device_rules r) cell v
    → gates.AreGates (plain d) (wiring_of r) t (device_rules r) cell z → v ≡ z

-- gates that are right over one choice of right nets
abbrev pub GatesOverAnyLaw : Type 0
GatesOverAnyLaw = (d : Linked) (r : Rules) (s : Tables) (cell : ℕ) (v : List GateEntry) → IsSound d
    → AreRightNets (plain d) (wiring_of r) s → IsReached (plain d) cell
    → gates.AreGates (plain d) (wiring_of r) s (device_rules r) cell v → (t : Tables)
    → AreRightNets (plain d) (wiring_of r) t → gates.AreGates (plain d)
    (wiring_of r) t (device_rules r) cell v

-- pins that are right over one choice of right nets and gates
abbrev pub PinsOverAnyLaw : Type 0
PinsOverAnyLaw = (d : Linked) (r : Rules) (s : Tables) (of : ℕ → List GateEntry) (cell : ℕ)
    (v : CellPins) → IsSound d → AreRightNets (plain d) (wiring_of r) s
    → AreRightGates (plain d) (wiring_of r) s (device_rules r) of → IsReached (plain d) cell
    → ArePinsOf (plain d) (wiring_of r) s of cell v
    → (t : Tables) (others : ℕ → List GateEntry) → AreRightNets (plain d) (wiring_of r) t
    → AreRightGates (plain d) (wiring_of r) t (device_rules r) others
    → ArePinsOf (plain d) (wiring_of r) t others cell v

-- circuits that are right over one choice of right nets, gates and pins
abbrev pub CircuitsOverAnyLaw : Type 0
CircuitsOverAnyLaw = (d : Linked) (r : Rules) (unit : ℕ) (s : Tables) (of : ℕ → List GateEntry)
    (pins : ℕ → CellPins) (level : ℕ → ℕ) (cells : List ℕ) (cell : ℕ) (v : CellCircuit) → IsSound d
    → AreCircuitSources (plain d) (wiring_of r) s (device_rules r) of pins level cells
    → IsReached (plain d) cell → IsCellCircuitOf (plain d) s of pins
    (device_rules r) unit cells cell v
    → (t : Tables) (others : ℕ → List GateEntry) (other_pins : ℕ → CellPins) (other_level : ℕ → ℕ)
    (other_cells : List ℕ)
    → AreCircuitSources (plain d) (wiring_of r) t
    (device_rules r) others other_pins other_level other_cells
    → IsCellCircuitOf (plain d) t others other_pins (device_rules r) unit other_cells cell v
