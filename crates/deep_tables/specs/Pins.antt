-- The pins and base names of cells.
use Rattle.std.specs.Prelude.{ℕ, List, [], Option, Some, None, IsSome, map}
use Rattle.flat_layout.specs.GateTables.{GateEntry}
use Rattle.flat_layout.specs.Layout.{Design, IsReached}
use Rattle.flat_layout.specs.Nets.{Tables}
use Rattle.flat_layout.specs.Pins.{ArePinsOf}
use Rattle.flat_layout.specs.Pins as flat
use Rattle.flat_layout.specs.Regions.{Wiring}
use Rattle.cell_graph.specs.Linked.{Linked, IsSound, plain}
use Rattle.rule_text.specs.Rules.{Rules}
use Rattle.rule_layers.specs.Meaning.{device_rules, wiring_of}
use Rattle.deep_tables.specs.Entries.{entry, AreEntries}
use Rattle.deep_tables.specs.Gates.{AreRightGates}
use Rattle.deep_tables.specs.Nets.{AreRightNets}
use Rattle.deep_tables.specs.declared.pins.CellPins.{CellPins}

-- pins as plain values: a net without a base name has the empty one
abbrev pub name_in : Option (List ℕ) → List ℕ
name_in None = []
name_in (Some name) = name

abbrev pub plain_pins : CellPins → flat.CellPins
plain_pins v = record { pins = v.pin.items; names = map name_in v.names.items }

-- the pins of a cell, right over all nets and gates that are right, and over all pins that are
-- right above
abbrev pub AreCellPins : Design → Rules → ℕ → CellPins → Type 0
AreCellPins d r cell v = (t : Tables) (gates : ℕ → List GateEntry) → AreRightNets d (wiring_of r) t
    → AreRightGates d (wiring_of r) t (device_rules r) gates
    → ArePinsOf d (wiring_of r) t gates cell (plain_pins v)

-- each reached cell has its pins
abbrev pub ArePins : Design → Rules → List (Option CellPins) → Type 0
ArePins d r table = AreEntries d (AreCellPins d r) table

abbrev pub pins_in : Option CellPins → flat.CellPins
pins_in None = record { pins = []; names = [] }
pins_in (Some v) = plain_pins v

-- what the table says
abbrev pub pins_of : List (Option CellPins) → ℕ → flat.CellPins
pins_of table cell = pins_in (entry table cell)

-- each reached cell's pins are right over these nets and gates
abbrev pub AreRightPins : Design → Wiring → Tables → (ℕ → List GateEntry) → (ℕ → flat.CellPins)
    → Type 0
AreRightPins d w t gates pins = (cell : ℕ) → IsReached d cell
    → flat.ArePins d w t gates pins cell (pins cell)

-- right pins over right nets and gates are right together
abbrev pub RightPinsLaw : Type 0
RightPinsLaw = (d : Linked) (r : Rules) (t : Tables) (gates : ℕ → List GateEntry)
    (table : List (Option CellPins)) → IsSound d → AreRightNets (plain d) (wiring_of r) t
    → AreRightGates (plain d) (wiring_of r) t (device_rules r) gates → ArePins (plain d) r table
    → AreRightPins (plain d) (wiring_of r) t gates (pins_of table)

-- and the accessor's condition is met at each reached cell
abbrev pub PinsAtLaw : Type 0
PinsAtLaw = (d : Design) (r : Rules) (table : List (Option CellPins)) (cell : ℕ) → ArePins d r table
    → IsReached d cell → IsSome (entry table cell)
