-- The netlist of a flat layout, said without cells or circuits: its devices are the good gates of
-- the flat top, its nets the regions of the flat top.
use Rattle.std.specs.Prelude.{◌≡◌, ℕ, List, Some, slice_get}
use Rattle.flat_layout.specs.Circuits.{IsCircuitCell}
use Rattle.flat_layout.specs.Expanded.{AreTablesRight, CircuitTables, IsGateOfDevice, ShowsNode}
use Rattle.flat_layout.specs.Gates.{Sides, Rule, geometry, sizes_of, InGate, IsGoodGate}
use Rattle.flat_layout.specs.Gates.{IsTerminalNode}
use Rattle.flat_layout.specs.GateTables.{GateSquare}
use Rattle.flat_layout.specs.Layout.{Design}
use Rattle.flat_layout.specs.Nets.{Tables}
use Rattle.flat_layout.specs.Pins.{IsMarked}
use Rattle.flat_layout.specs.Regions.{Wiring, Node, InOneRegion, flat}
use Rattle.plain_netlist.specs.Devices.{Row, Terminal, IsAt, IsFormed}
use Rattle.plain_netlist.specs.Flats.{Corresponds, expanded, Flat}
use Rattle.plain_netlist.specs.Netlist.{DeviceRow, HasDevice, IsTerminal, Netlist, Slot}

-- the device of a good gate of the flat top, a region of a device rule of any kind: its rule's kind
-- and class, its sizes, and each terminal of the kind on a node of it
pub record IsFlatDevice (d : Design) (w : Wiring) (rules : List Rule) (unit : ℕ) (a : GateSquare)
    (row : Row Node) : Type 0 where
  pub rule : Rule
  pub is : slice_get rules a.rule ≡ Some rule
  pub sides : Sides
  pub twice_w : ℕ
  pub twice_l : ℕ
  pub good : IsGoodGate d w rule d.top a.square sides twice_w twice_l
  pub kind : row.kind ≡ rule.kind
  pub class : row.class ≡ rule.class
  pub sizes : row.sizes ≡ sizes_of rule unit twice_w twice_l
  pub formed : IsFormed row
  pub nodes : (terminal : Terminal) (n : Node) → IsAt terminal row n
      → IsTerminalNode d w rule d.top a.square sides terminal n

-- two squares of one gate of the flat top, for one rule
abbrev pub AreOneGate : Design → Wiring → List Rule → GateSquare → GateSquare → Type 0
AreOneGate d w rules a b = (a.rule ≡ b.rule)
    × ((u : Rule) → slice_get rules a.rule ≡ Some u
    → InGate d (geometry w u) d.top a.square b.square)

-- a region that a global is in, or that a text names
abbrev pub IsMarkedRegion : Design → Wiring → Node → Type 0
IsMarkedRegion d w x = (y : Node) × InOneRegion w (flat d w d.top) x y × IsMarked d w d.top y

-- a device is known by each square of its gate, a net by each node of its region; pins are the
-- regions with a global or a text
abbrev pub flat_netlist : Design → Wiring → List Rule → ℕ → Flat GateSquare Node
flat_netlist d w rules unit = record {
  has_device = IsFlatDevice d w rules unit;
  one_device = AreOneGate d w rules;
  one_net = InOneRegion w (flat d w d.top);
  is_pin = IsMarkedRegion d w;
}

-- a device of circuit n, expanded, and a square of the flat gate that its own gate is seen as
abbrev pub IsFlatGateOf : Design → Wiring → CircuitTables → Netlist → ℕ → List Rule → Slot
    → GateSquare → Type 0
IsFlatGateOf d w g nl n rules a o = ((row : DeviceRow) × HasDevice nl n a.path a.net row)
    × ((q : GateSquare) × IsGateOfDevice d g d.top a.path a.net q.rule q.square
    × AreOneGate d w rules q o)

-- a net of circuit n, expanded, with a device's terminal, and a node of the flat region in which
-- its own nodes are seen
abbrev pub IsFlatRegionOf : Design → Wiring → Tables → CircuitTables → Netlist → ℕ → Slot → Node
    → Type 0
IsFlatRegionOf d w t g nl n a x = IsTerminal nl n a
    × ((m : Node) × ShowsNode d t g d.top a.path a.net m × InOneRegion w (flat d w d.top) m x)

-- the top has a circuit
abbrev pub TopCircuitLaw : Type 0
TopCircuitLaw = (d : Design) (w : Wiring) (t : Tables) (g : CircuitTables) (nl : Netlist)
    (rules : List Rule) (unit : ℕ) (level : ℕ → ℕ) → AreTablesRight d w t g nl rules unit level
    → (n : ℕ) × IsCircuitCell g.cells n d.top

-- it expands to the netlist of the flat layout
abbrev pub FlatCorrespondsLaw : Type 0
FlatCorrespondsLaw = (d : Design) (w : Wiring) (t : Tables) (g : CircuitTables) (nl : Netlist)
    (rules : List Rule) (unit : ℕ) (level : ℕ → ℕ) → AreTablesRight d w t g nl rules unit level
    → (n : ℕ) → IsCircuitCell g.cells n d.top
    → Corresponds (expanded nl n) (flat_netlist d w rules unit) (IsFlatGateOf d w g nl n rules)
    (IsFlatRegionOf d w t g nl n)
