-- The expanded netlist beside the flat layout.
use Rattle.std.specs.Prelude.{◌≡◌, ◌↔◌, ℕ, List, Some, slice_get}
use Rattle.flat_layout.specs.Circuits.{IsCircuitCell}
use Rattle.flat_layout.specs.Expanded.{AreTablesRight, CircuitTables, IsExpanded, IsFlatNetlist}
use Rattle.flat_layout.specs.Expanded.{IsPartOfNet, ShowsNode}
use Rattle.flat_layout.specs.Gates.{Rule}
use Rattle.flat_layout.specs.GateTables.{AreGates, GateEntry, good_gates}
use Rattle.flat_layout.specs.Layout.{Design, IsReached}
use Rattle.flat_layout.specs.Nets.{AreTables, Tables, NetHolds}
use Rattle.flat_layout.specs.Regions.{InOneRegion, Node, Wiring, kept, IsNode, flat}
use Rattle.flat_laws.specs.Planned.{AreGateRows, ArePlanned}
use Rattle.plain_netlist.specs.Devices.{IsFormed}
use Rattle.plain_netlist.specs.Netlist.{DeviceRow, InOneNet, IsDevice, IsTerminal, Netlist, Slot}

-- the good ones of right gates are the rows of the good gates, each once
abbrev pub RowsLaw : Type 0
RowsLaw = (d : Design) (w : Wiring) (t : Tables) (rules : List Rule) (cell : ℕ) (v : List GateEntry)
    → AreGates d w t rules cell v → AreGateRows d w t rules cell (good_gates v)

-- right tables are planned
abbrev pub PlannedLaw : Type 0
PlannedLaw = (d : Design) (w : Wiring) (t : Tables) (g : CircuitTables) (nl : Netlist)
    (rules : List Rule) (unit : ℕ) (level : ℕ → ℕ) → AreTablesRight d w t g nl rules unit level
    → ArePlanned d w t g nl rules unit

-- a device has the kind and the class of its rule, and the kind's terminals and sizes
abbrev pub DeviceOfRuleLaw : Type 0
DeviceOfRuleLaw = (d : Design) (w : Wiring) (t : Tables) (g : CircuitTables) (nl : Netlist)
    (rules : List Rule) (unit : ℕ) (level : ℕ → ℕ) → AreTablesRight d w t g nl rules unit level
    → (cell n i : ℕ) (row : DeviceRow) → IsReached d cell → IsCircuitCell g.cells n cell
    → IsDevice nl n i row
    → (r : ℕ) × (u : Rule) × (slice_get rules r ≡ Some u) × (row.kind ≡ u.kind)
    × (row.class ≡ u.class) × IsFormed row

-- terminals are on one net of the expanded netlist exactly where they are part of one net of the
-- cell
abbrev pub PartLaw : Type 0
PartLaw = (d : Design) (w : Wiring) (t : Tables) (g : CircuitTables) (nl : Netlist)
    (rules : List Rule) (unit : ℕ) (level : ℕ → ℕ) → AreTablesRight d w t g nl rules unit level
    → (cell s : ℕ) → IsReached d cell → IsCircuitCell g.cells s cell → (a b : Slot) (x y : ℕ)
    → IsTerminal nl s a → IsTerminal nl s b
    → IsPartOfNet d t g cell a.path a.net x → IsPartOfNet d t g cell b.path b.net y
    → InOneNet nl s a b ↔ (x ≡ y)

-- and exactly where their squares are in one region
abbrev pub NetLaw : Type 0
NetLaw = (d : Design) (w : Wiring) (t : Tables) (g : CircuitTables) (nl : Netlist)
    (rules : List Rule) (unit : ℕ) (level : ℕ → ℕ) → AreTablesRight d w t g nl rules unit level
    → (cell s : ℕ) → IsReached d cell → IsCircuitCell g.cells s cell → (a b : Slot) (m n : Node)
    → IsTerminal nl s a → IsTerminal nl s b
    → ShowsNode d t g cell a.path a.net m → ShowsNode d t g cell b.path b.net n → InOneNet nl s a b
    ↔ InOneRegion w (kept d w cell) m n

-- what the top's circuit expands to is the flat layout's netlist
abbrev pub NetlistLaw : Type 0
NetlistLaw = (d : Design) (w : Wiring) (t : Tables) (g : CircuitTables) (nl : Netlist)
    (rules : List Rule) (unit : ℕ) (level : ℕ → ℕ) → AreTablesRight d w t g nl rules unit level
    → (n : ℕ) → IsCircuitCell g.cells n d.top → IsExpanded d w t g nl rules unit d.top n

-- in words of the flat top alone: its gates, its regions
abbrev pub FlatNetlistLaw : Type 0
FlatNetlistLaw = (d : Design) (w : Wiring) (t : Tables) (g : CircuitTables) (nl : Netlist)
    (rules : List Rule) (unit : ℕ) (level : ℕ → ℕ) → AreTablesRight d w t g nl rules unit level
    → (n : ℕ) → IsCircuitCell g.cells n d.top → IsFlatNetlist d w t g nl rules unit n

-- and the nets of the top are the regions of the flat top
abbrev pub FlatRegionLaw : Type 0
FlatRegionLaw = (d : Design) (w : Wiring) (t : Tables) (height : ℕ → ℕ) → AreTables d w t height
    → (x y : ℕ) (a b : Node) → NetHolds d t d.top x a → NetHolds d t d.top y b
    → IsNode w (flat d w d.top) a × ((x ≡ y) ↔ InOneRegion w (flat d w d.top) a b)
