-- A netlist beside the flat layout: a device for each good gate, its nets the regions of its
-- terminals.
use Rattle.std.specs.Prelude.{◌≡◌, ◌↔◌, ℕ, Bool, List, [], ◌∷◌, Some, slice_get}
use Rattle.geo_base.specs.Motions.{moved_square}
use Rattle.geo_base.specs.declared.shapes.Square.{Square}
use Rattle.flat_layout.specs.Circuits.{AreDrawn, AreCircuitCells, CircuitParts, IsNetlistOf}
use Rattle.flat_layout.specs.Gates.{Rule, Sides, geometry, sizes_of, InGate, IsSettled}
use Rattle.flat_layout.specs.Gates.{IsGoodGate, IsTerminalNode}
use Rattle.flat_layout.specs.GateTables.{GateEntry, GoodGate, good_gates, AreGates}
use Rattle.flat_layout.specs.Layers.{InFlat}
use Rattle.flat_layout.specs.Layout.{Place, Design, IsPlaced, IsReached}
use Rattle.flat_layout.specs.Nets.{Child, Tables, NetHolds, AreTables}
use Rattle.flat_layout.specs.Order.{AreLevels}
use Rattle.flat_layout.specs.Pins.{CellPins, IsMarked, IsNetOf, ArePins}
use Rattle.flat_layout.specs.Regions.{Wiring, Node, moved, InOneRegion, kept, flat}
use Rattle.plain_netlist.specs.Devices.{Terminal, IsAt, IsFormed}
use Rattle.plain_netlist.specs.Netlist.{DeviceRow, Netlist, Slot, InOneNet, HasDevice}
use Rattle.plain_netlist.specs.Netlist.{IsTerminal, IsOnPin}

-- what the phases behind the nets fill in: of each cell its gates, its pins, its drawn nets; the
-- cells with circuits, and what each circuit is made of
pub record CircuitTables : Type 0 where
  pub gates : ℕ → List GateEntry
  pub pins : ℕ → CellPins
  pub drawn : ℕ → List Bool
  pub cells : List ℕ
  pub parts : ℕ → CircuitParts

-- all that the phases fill in is right in each reached cell, and the netlist has the cells'
-- circuits
pub record AreTablesRight (d : Design) (w : Wiring) (t : Tables) (g : CircuitTables) (nl : Netlist)
    (rules : List Rule) (unit : ℕ) (level : ℕ → ℕ) : Type 0 where
  pub levels : AreLevels d level
  pub tables : AreTables d w t level
  pub gates : (cell : ℕ) → IsReached d cell → AreGates d w t rules cell (g.gates cell)
  pub pins : (cell : ℕ) → IsReached d cell → ArePins d w t g.gates g.pins cell (g.pins cell)
  pub drawn : (cell : ℕ) → IsReached d cell
      → AreDrawn d t g.gates g.pins g.drawn cell (g.drawn cell)
  pub cells : AreCircuitCells d level g.gates g.cells
  pub circuits : IsNetlistOf d t g.gates g.pins g.drawn rules unit g.cells g.parts nl

-- the cell's net that a net at the end of a path of calls is part of
abbrev pub IsPartOfNet : Design → Tables → CircuitTables → ℕ → List ℕ → ℕ → ℕ → Type 0
IsPartOfNet d t g cell [] a x = slice_get (g.parts cell).nets a ≡ Some x
IsPartOfNet d t g cell (c ∷ cs) a x = (k : ℕ) × (p : Place)
    × (slice_get (g.parts cell).calls c ≡ Some k) × IsPlaced d cell k p × (u : ℕ)
    × IsPartOfNet d t g p.cell cs a u × IsNetOf (t.nets cell) (Child k u) x

-- a node of that net, seen from the path's start
abbrev pub ShowsNode : Design → Tables → CircuitTables → ℕ → List ℕ → ℕ → Node → Type 0
ShowsNode d t g cell [] a n =
    (x : ℕ) × (slice_get (g.parts cell).nets a ≡ Some x) × NetHolds d t cell x n
ShowsNode d t g cell (c ∷ cs) a n = (k : ℕ) × (p : Place)
    × (slice_get (g.parts cell).calls c ≡ Some k) × IsPlaced d cell k p × (m : Node)
    × ShowsNode d t g p.cell cs a m × (moved p.motion m ≡ n)

-- the gate of a device at the end of a path of calls, as a square seen from the path's start
abbrev pub IsGateOfDevice : Design → CircuitTables → ℕ → List ℕ → ℕ → ℕ → Square → Type 0
IsGateOfDevice d g cell [] i r q = (gate : GoodGate)
    × (slice_get (good_gates (g.gates cell)) i ≡ Some gate) × (gate.at.rule ≡ r)
    × (gate.at.square ≡ q)
IsGateOfDevice d g cell (c ∷ cs) i r q = (k : ℕ) × (p : Place)
    × (slice_get (g.parts cell).calls c ≡ Some k) × IsPlaced d cell k p × (s : Square)
    × IsGateOfDevice d g p.cell cs i r s × (moved_square p.motion s ≡ q)

-- the device is that of the flat gate: it has its rule's kind, class and terminals, and its sizes;
-- the net of each terminal shows a node of the terminal
pub record IsDeviceOf (d : Design) (w : Wiring) (t : Tables) (g : CircuitTables) (u : Rule)
    (unit cell : ℕ) (path : List ℕ) (row : DeviceRow) (s : Square) : Type 0 where
  pub sides : Sides
  pub twice_w : ℕ
  pub twice_l : ℕ
  pub settled : IsSettled d (geometry w u) cell s
  pub good : IsGoodGate d w u cell s sides twice_w twice_l
  pub kind : row.kind ≡ u.kind
  pub class : row.class ≡ u.class
  pub sizes : row.sizes ≡ sizes_of u unit twice_w twice_l
  pub formed : IsFormed row
  pub nodes : (terminal : Terminal) (a : ℕ) → IsAt terminal row a → (n : Node)
      × IsTerminalNode d w u cell s sides terminal n × ShowsNode d t g cell path a n

-- a device of the netlist for each good gate, and each once
pub record AreDevices (d : Design) (w : Wiring) (t : Tables) (g : CircuitTables) (nl : Netlist)
    (rules : List Rule) (unit cell n : ℕ) : Type 0 where
  pub each : (path : List ℕ) (i : ℕ) (row : DeviceRow) → HasDevice nl n path i row
      → (r : ℕ) × (u : Rule) × (s : Square) × (slice_get rules r ≡ Some u)
      × IsGateOfDevice d g cell path i r s × IsDeviceOf d w t g u unit cell path row s
  pub found : (r : ℕ) (u : Rule) (s : Square) (sides : Sides) (v l : ℕ) → slice_get rules r ≡ Some u
      → IsSettled d (geometry w u) cell s → IsGoodGate d w u cell s sides v l
      → (path : List ℕ) × (i : ℕ) × (row : DeviceRow) × (q : Square) × HasDevice nl n path i row
      × IsGateOfDevice d g cell path i r q × InGate d (geometry w u) cell s q
  pub once : (a b : List ℕ) (i j : ℕ) (x y : DeviceRow) (r : ℕ) (u : Rule) (s q : Square)
      → HasDevice nl n a i x → HasDevice nl n b j y → slice_get rules r ≡ Some u
      → IsGateOfDevice d g cell a i r s → IsGateOfDevice d g cell b j r q
      → InGate d (geometry w u) cell s q → (a ≡ b) × (i ≡ j)

-- and their nets are the regions of their terminals, their pins those with a global or a text
pub record IsExpanded (d : Design) (w : Wiring) (t : Tables) (g : CircuitTables) (nl : Netlist)
    (rules : List Rule) (unit cell n : ℕ) : Type 0 where
  pub devices : AreDevices d w t g nl rules unit cell n
  pub nets : (a b : Slot) (x y : Node) → IsTerminal nl n a → IsTerminal nl n b
      → ShowsNode d t g cell a.path a.net x → ShowsNode d t g cell b.path b.net y
      → InOneNet nl n a b ↔ InOneRegion w (kept d w cell) x y
  pub pins : (a : Slot) (x : Node) → IsTerminal nl n a → ShowsNode d t g cell a.path a.net x
      → IsOnPin nl n a ↔ ((y : Node) × InOneRegion w (kept d w cell) x y × IsMarked d w cell y)

-- the top's circuit n expands to the flat netlist: a device for each good gate of the flat top,
-- each once, on the regions of the flat top
pub record IsFlatNetlist (d : Design) (w : Wiring) (t : Tables) (g : CircuitTables) (nl : Netlist)
    (rules : List Rule) (unit n : ℕ) : Type 0 where
  pub each : (path : List ℕ) (i : ℕ) (row : DeviceRow) → HasDevice nl n path i row
      → (r : ℕ) × (u : Rule) × (s : Square) × (slice_get rules r ≡ Some u)
      × IsGateOfDevice d g d.top path i r s × IsDeviceOf d w t g u unit d.top path row s
  pub found : (r : ℕ) (u : Rule) (s : Square) (sides : Sides) (v l : ℕ) → slice_get rules r ≡ Some u
      → InFlat d d.top u.gate s → IsGoodGate d w u d.top s sides v l
      → (path : List ℕ) × (i : ℕ) × (row : DeviceRow) × (q : Square) × HasDevice nl n path i row
      × IsGateOfDevice d g d.top path i r q × InGate d (geometry w u) d.top s q
  pub once : (a b : List ℕ) (i j : ℕ) (x y : DeviceRow) (r : ℕ) (u : Rule) (s q : Square)
      → HasDevice nl n a i x → HasDevice nl n b j y → slice_get rules r ≡ Some u
      → IsGateOfDevice d g d.top a i r s → IsGateOfDevice d g d.top b j r q
      → InGate d (geometry w u) d.top s q → (a ≡ b) × (i ≡ j)
  pub nets : (a b : Slot) (x y : Node) → IsTerminal nl n a → IsTerminal nl n b
      → ShowsNode d t g d.top a.path a.net x → ShowsNode d t g d.top b.path b.net y
      → InOneNet nl n a b ↔ InOneRegion w (flat d w d.top) x y
  pub pins : (a : Slot) (x : Node) → IsTerminal nl n a → ShowsNode d t g d.top a.path a.net x
      → IsOnPin nl n a ↔ ((y : Node) × InOneRegion w (flat d w d.top) x y × IsMarked d w d.top y)
