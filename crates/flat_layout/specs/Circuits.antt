-- The circuits of the cells: which cells have one, and its nets, pins, devices, calls and names.
use Rattle.std.specs.Prelude.{◌≡◌, ◌⊎◌, ◌↔◌, ℕ, suc, ◌<◌, Bool, true, cond, ◌&&◌, List, [], ◌∷◌}
use Rattle.std.specs.Prelude.{Some, map, length, get_or, slice_get}
use Rattle.net_names.specs.Folding.{folded_bytes}
use Rattle.flat_layout.specs.Gates.{Rule, sizes_of}
use Rattle.flat_layout.specs.GateTables.{GateEntry, GoodGate, device_by, good_gates}
use Rattle.flat_layout.specs.Layout.{Place, Design, IsPlaced}
use Rattle.flat_layout.specs.Names.{net_names, circuit_names}
use Rattle.flat_layout.specs.Nets.{Child, Tables, IsUnder, no_cell}
use Rattle.flat_layout.specs.Order.{AreInOrder}
use Rattle.flat_layout.specs.Pins.{CellPins, IsPinNet, IsNetOf, HasGate}
use Rattle.plain_netlist.specs.Lists.{IsListed, AreApart, AreRising}
use Rattle.plain_netlist.specs.Devices.{IsRowOver}
use Rattle.plain_netlist.specs.Netlist.{DeviceRow, CallRow, Circuit, Netlist, IsCircuit}
use Rattle.plain_netlist.specs.Normal.{IsNormalCircuit}

-- a truth for each net of a cell: whether it is drawn
abbrev pub IsDrawn : (ℕ → List Bool) → ℕ → ℕ → Type 0
IsDrawn drawn cell x = slice_get (drawn cell) x ≡ Some true

-- a placed cell's net in it is a pin and drawn there
pub record IsDrawnBelow (d : Design) (t : Tables) (pins : ℕ → CellPins) (drawn : ℕ → List Bool)
    (cell x : ℕ) : Type 0 where
  pub number : ℕ
  pub place : Place
  pub net : ℕ
  pub placed : IsPlaced d cell number place
  pub is_of : IsNetOf (t.nets cell) (Child number net) x
  pub is_pin : IsPinNet pins place.cell net
  pub is_drawn : IsDrawn drawn place.cell net

-- over right nets, gates and pins and the drawn nets of the cells below: the nets with a good
-- gate's terminal, and those with a drawn pin of a placed cell
pub record AreDrawn (d : Design) (t : Tables) (gates : ℕ → List GateEntry) (pins : ℕ → CellPins)
    (drawn : ℕ → List Bool) (cell : ℕ) (v : List Bool) : Type 0 where
  pub count : length v ≡ (t.nets cell).count
  pub each : (x : ℕ) → x < (t.nets cell).count → (slice_get v x ≡ Some true)
      ↔ (HasGate gates cell x ⊎ IsDrawnBelow d t pins drawn cell x)

-- a cell has a circuit where it is the top, or a good gate stands in or below it
abbrev pub HasCircuit : Design → (ℕ → List GateEntry) → ℕ → Type 0
HasCircuit d gates cell = (cell ≡ d.top)
    ⊎ ((e : ℕ) × IsUnder d cell e × (gate : GoodGate) × IsListed gate (good_gates (gates e)))

-- the cells with circuits, in the design's order
abbrev pub AreCircuitCells : Design → (ℕ → ℕ) → (ℕ → List GateEntry) → List ℕ → Type 0
AreCircuitCells d level gates cells = AreInOrder d level (HasCircuit d gates) cells

-- circuit n is this cell's
abbrev pub IsCircuitCell : List ℕ → ℕ → ℕ → Type 0
IsCircuitCell cells n cell = slice_get cells n ≡ Some cell

-- the numbers of the places of true, k being the first place
abbrev pub true_places : ℕ → List Bool → List ℕ
true_places k [] = []
true_places k (b ∷ bs) = cond b (k ∷ true_places (suc k) bs) (true_places (suc k) bs)

abbrev pub both : List Bool → List Bool → List Bool
both [] more = []
both (a ∷ rest) [] = []
both (a ∷ rest) (b ∷ more) = (a && b) ∷ both rest more

-- the drawn nets of a cell in order, and the pins among them
abbrev pub drawn_nets : List Bool → List ℕ
drawn_nets drawn = true_places 0 drawn

abbrev pub pin_nets : CellPins → List Bool → List ℕ
pin_nets pins drawn = true_places 0 (both pins.pins drawn)

-- the names of the drawn nets in order: from their folded base names, numbered from 1
abbrev pub drawn_names : CellPins → List Bool → List (List ℕ)
drawn_names pins drawn =
    net_names [] 1 (map (λ x. folded_bytes (get_or pins.names x [])) (drawn_nets drawn))

-- what a circuit's nets and calls are in its cell: the cell's net of each net, the placement of
-- each call
pub record CircuitParts : Type 0 where
  pub nets : List ℕ
  pub calls : List ℕ

-- the circuit's nets are the cell's drawn nets, each once, under their names
pub record AreCircuitNets (pins : CellPins) (drawn : List Bool) (nets : List ℕ)
    (c : Circuit) : Type 0 where
  pub apart : AreApart nets
  pub each : (x : ℕ) → IsListed x nets ↔ (slice_get drawn x ≡ Some true)
  pub count : length c.nets ≡ length nets
  pub named : (a k x : ℕ) → slice_get nets a ≡ Some x → slice_get (drawn_nets drawn) k ≡ Some x
      → slice_get c.nets a ≡ slice_get (drawn_names pins drawn) k

-- its pins, which in normal form are its first nets, are the cell's drawn pins, in order
pub record AreCircuitPins (pins : CellPins) (drawn : List Bool) (nets : List ℕ)
    (c : Circuit) : Type 0 where
  pub count : length c.pins ≡ length (pin_nets pins drawn)
  pub each : (i x : ℕ) → slice_get (pin_nets pins drawn) i ≡ Some x → slice_get nets i ≡ Some x

-- a device for a good gate: its kind, its rule's class, its sizes, each terminal on the circuit's
-- net of the gate's net
pub record IsDeviceOfGate (rules : List Rule) (unit : ℕ) (nets : List ℕ) (gate : GoodGate)
    (row : DeviceRow) : Type 0 where
  pub rule : Rule
  pub is : slice_get rules gate.at.rule ≡ Some rule
  pub over : IsRowOver (λ x a. slice_get nets a ≡ Some x)
      (device_by rule (sizes_of rule unit gate.row.twice_w gate.row.twice_l) gate.row) row

-- its devices are the cell's good gates, in order
pub record AreCircuitDevices (rules : List Rule) (unit : ℕ) (gates : List GateEntry) (nets : List ℕ)
    (c : Circuit) : Type 0 where
  pub count : length c.devices ≡ length (good_gates gates)
  pub each : (i : ℕ) (gate : GoodGate) (row : DeviceRow)
      → slice_get (good_gates gates) i ≡ Some gate → slice_get c.devices i ≡ Some row
      → IsDeviceOfGate rules unit nets gate row

-- a call of a placed cell's circuit: at each of its pins the circuit's net of the cell's net that
-- has the placed cell's
pub record IsCallOf (t : Tables) (pins : ℕ → CellPins) (drawn : ℕ → List Bool) (cells : List ℕ)
    (cell k : ℕ) (p : Place) (nets : List ℕ) (row : CallRow) : Type 0 where
  pub circuit : IsCircuitCell cells row.circuit p.cell
  pub count : length row.nets ≡ length (pin_nets (pins p.cell) (drawn p.cell))
  pub each : (i inner outer : ℕ) → slice_get (pin_nets (pins p.cell) (drawn p.cell)) i ≡ Some inner
      → slice_get row.nets i ≡ Some outer
      → (x : ℕ) × (slice_get nets outer ≡ Some x) × IsNetOf (t.nets cell) (Child k inner) x

-- its calls are the placements of cells with circuits, in order
pub record AreCircuitCalls (d : Design) (t : Tables) (pins : ℕ → CellPins) (drawn : ℕ → List Bool)
    (cells : List ℕ) (cell : ℕ) (parts : CircuitParts) (c : Circuit) : Type 0 where
  pub placements : (k : ℕ) → IsListed k parts.calls
      ↔ ((p : Place) × IsPlaced d cell k p × IsListed p.cell cells)
  pub rising : AreRising ◌<◌ parts.calls
  pub count : length c.calls ≡ length parts.calls
  pub each : (a k : ℕ) (p : Place) (row : CallRow) → slice_get parts.calls a ≡ Some k
      → IsPlaced d cell k p → slice_get c.calls a ≡ Some row
      → IsCallOf t pins drawn cells cell k p parts.nets row

-- the name of circuit n: from the folded names of the cells with circuits, numbered from 1
abbrev pub cell_name : Design → ℕ → List ℕ
cell_name d cell = (get_or d.cells cell no_cell).name

abbrev pub cell_circuit_names : Design → List ℕ → List (List ℕ)
cell_circuit_names d cells =
    circuit_names [] 1 (map (λ cell. folded_bytes (cell_name d cell)) cells)

-- the circuit of a cell, in normal form
pub record IsCircuitOf (d : Design) (t : Tables) (gates : ℕ → List GateEntry) (pins : ℕ → CellPins)
    (drawn : ℕ → List Bool) (rules : List Rule) (unit : ℕ) (cells : List ℕ) (n cell : ℕ)
    (parts : CircuitParts) (c : Circuit) : Type 0 where
  pub has_name : slice_get (cell_circuit_names d cells) n ≡ Some c.name
  pub has_nets : AreCircuitNets (pins cell) (drawn cell) parts.nets c
  pub has_pins : AreCircuitPins (pins cell) (drawn cell) parts.nets c
  pub has_devices : AreCircuitDevices rules unit (gates cell) parts.nets c
  pub has_calls : AreCircuitCalls d t pins drawn cells cell parts c
  pub normal : IsNormalCircuit c

-- a circuit for each cell that has one, in the design's order
pub record IsNetlistOf (d : Design) (t : Tables) (gates : ℕ → List GateEntry) (pins : ℕ → CellPins)
    (drawn : ℕ → List Bool) (rules : List Rule) (unit : ℕ) (cells : List ℕ)
    (parts : ℕ → CircuitParts) (nl : Netlist) : Type 0 where
  pub count : length nl.circuits ≡ length cells
  pub each : (n cell : ℕ) (c : Circuit) → IsCircuitCell cells n cell → IsCircuit nl n c
      → IsCircuitOf d t gates pins drawn rules unit cells n cell (parts cell) c
