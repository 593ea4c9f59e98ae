-- The gates of cells: the regions of all device rules, or of those of transistors alone.
use Rattle.std.specs.Prelude.{◌≡◌, ◌↔◌, ℕ, Bool, true, false, List, [], Option, Some, None}
use Rattle.std.specs.Prelude.{IsSome, map, slice_get}
use Rattle.geo_base.specs.declared.shapes.Square.{Square}
use Rattle.rect_sets.specs.Rects.{covers}
use Rattle.flat_layout.specs.Gates.{Rule, InGate, geometry}
use Rattle.flat_layout.specs.GateTables.{GateEntry, Verdict}
use Rattle.flat_layout.specs.GateTables as gates
use Rattle.flat_layout.specs.Layout.{Design, IsReached}
use Rattle.flat_layout.specs.Nets.{Tables}
use Rattle.flat_layout.specs.Regions.{Wiring}
use Rattle.net_model.specs.Rows.{ends_in, others_in}
use Rattle.rule_text.specs.Rules.{Rules}
use Rattle.rule_layers.specs.Meaning.{device_rules, mos_rules, wiring_of}
use Rattle.deep_tables.specs.Entries.{entry, AreEntries}
use Rattle.deep_tables.specs.Nets.{AreRightNets}
use Rattle.deep_tables.specs.declared.gates.CellGates.{CellGates}
use Rattle.deep_tables.specs.declared.gates.Gate.{Gate}
use Rattle.deep_tables.specs.declared.gates.GateState.{GateState}
use Rattle.deep_tables.specs.declared.gates.GateState.TheVariants.{Good, Bad}

-- gates as plain values
abbrev pub plain_state : GateState → Verdict
plain_state (Good kind w l nets) = gates.Good (record {
  kind = kind;
  twice_w = w;
  twice_l = l;
  ends = ends_in kind nets;
  others = others_in kind nets;
})
plain_state (Bad cause) = gates.Bad cause

abbrev pub plain_gate : Gate → GateEntry
plain_gate x = record {
  at = record { rule = x.device; square = x.least };
  verdict = plain_state x.state;
}

-- the gate's squares are those of the part of its rule's layer that has its least square
abbrev pub HasArea : Design → Rules → ℕ → Gate → Type 0
HasArea d r cell x = (u : Rule) → slice_get (device_rules r) x.device ≡ Some u → (q : Square)
    → (covers x.area q ≡ true) ↔ InGate d (geometry (wiring_of r) u) cell x.least q

-- the gates of these rules in a cell's own list, right over all tables of layers and nets that are
-- right
pub record AreCellDevices (d : Design) (r : Rules) (rules : List Rule) (cell : ℕ) (v : CellGates)
    : Type 0 where
  pub gates : (t : Tables) → AreRightNets d (wiring_of r) t
      → gates.AreGates d (wiring_of r) t rules cell (map plain_gate v.gates.items)
  pub areas : (i : ℕ) (x : Gate) → slice_get v.gates.items i ≡ Some x → HasArea d r cell x

-- those of all rules, and of transistors alone
abbrev pub AreCellGates : Design → Rules → ℕ → CellGates → Type 0
AreCellGates d r cell v = AreCellDevices d r (device_rules r) cell v

abbrev pub AreMosCellGates : Design → Rules → ℕ → CellGates → Type 0
AreMosCellGates d r cell v = AreCellDevices d r (mos_rules r) cell v

-- by a key that says whether further devices are in the list
abbrev pub AreListedGates : Bool → Design → Rules → ℕ → CellGates → Type 0
AreListedGates true d r cell v = AreCellGates d r cell v
AreListedGates false d r cell v = AreMosCellGates d r cell v

-- each reached cell has its transistors
abbrev pub AreMosGates : Design → Rules → List (Option CellGates) → Type 0
AreMosGates d r table = AreEntries d (AreMosCellGates d r) table

-- each reached cell has its gates
abbrev pub AreGates : Design → Rules → List (Option CellGates) → Type 0
AreGates d r table = AreEntries d (AreCellGates d r) table

abbrev pub list_of : Option CellGates → Option (List Gate)
list_of None = None
list_of (Some v) = Some v.gates.items

abbrev pub gates_in : Option CellGates → List GateEntry
gates_in None = []
gates_in (Some v) = map plain_gate v.gates.items

-- what the table says
abbrev pub gates_of : List (Option CellGates) → ℕ → List GateEntry
gates_of table cell = gates_in (entry table cell)

-- each reached cell's gates are right over these nets
abbrev pub AreRightGates : Design → Wiring → Tables → List Rule → (ℕ → List GateEntry) → Type 0
AreRightGates d w t rules of = (cell : ℕ) → IsReached d cell
    → gates.AreGates d w t rules cell (of cell)

-- right gates over right nets are right together
abbrev pub RightGatesLaw : Type 0
RightGatesLaw = (d : Design) (r : Rules) (t : Tables) (table : List (Option CellGates))
    → AreRightNets d (wiring_of r) t → AreGates d r table
    → AreRightGates d (wiring_of r) t (device_rules r) (gates_of table)

-- and the accessor's condition is met at each reached cell
abbrev pub GatesAtLaw : Type 0
GatesAtLaw = (d : Design) (r : Rules) (table : List (Option CellGates)) (cell : ℕ)
    → AreGates d r table → IsReached d cell → IsSome (entry table cell)
