-- What the tables of gates, pins, drawn nets and circuits come to, in words of numbers and indexes.
use Rattle.std.specs.Prelude.{◌≡◌, ◌⊎◌, ◌↔◌, ℕ, ◌<◌, List, Some, slice_get}
use Rattle.flat_layout.specs.Circuits.{IsCircuitCell, IsDeviceOfGate, IsDrawn, IsDrawnBelow}
use Rattle.flat_layout.specs.Expanded.{CircuitTables}
use Rattle.flat_layout.specs.Gates.{Sides, Rule, geometry, InGate, IsGoodGate, IsListedGate}
use Rattle.flat_layout.specs.GateTables.{GoodGate, IsGateRow, good_gates}
use Rattle.flat_layout.specs.Layout.{Design, Place, IsPlaced, IsReached}
use Rattle.flat_layout.specs.Nets.{Child, Tables}
use Rattle.flat_layout.specs.Pins.{HasGate, IsMarkedNet, IsNetOf, IsPinNet, IsUsedAbove}
use Rattle.flat_layout.specs.Regions.{Wiring}
use Rattle.geo_base.specs.declared.shapes.Square.{Square}
use Rattle.plain_netlist.specs.Netlist.{CallRow, Circuit, DeviceRow, Netlist, IsCircuit}

-- the good gates of the cell, each once, with their rows
pub record AreGateRows (d : Design) (w : Wiring) (t : Tables) (rules : List Rule) (cell : ℕ)
    (v : List GoodGate) : Type 0 where
  pub each : (i : ℕ) (x : GoodGate) → slice_get v i ≡ Some x
      → (u : Rule) × (slice_get rules x.at.rule ≡ Some u)
      × IsListedGate d (geometry w u) cell x.at.square × IsGateRow d w t u cell x.at.square x.row
  pub found : (r : ℕ) (u : Rule) (s : Square) (sides : Sides) (m n : ℕ) → slice_get rules r ≡ Some u
      → IsListedGate d (geometry w u) cell s → IsGoodGate d w u cell s sides m n
      → (i : ℕ) × (x : GoodGate) × (slice_get v i ≡ Some x) × (x.at.rule ≡ r)
      × InGate d (geometry w u) cell s x.at.square
  pub once : (i j : ℕ) (x y : GoodGate) (u : Rule) → slice_get v i ≡ Some x → slice_get v j ≡ Some y
      → x.at.rule ≡ y.at.rule → slice_get rules x.at.rule ≡ Some u
      → InGate d (geometry w u) cell x.at.square y.at.square → i ≡ j

-- a call joins each pin of the called circuit as the placement joins the nets
pub record IsJoiningCall (t : Tables) (g : CircuitTables) (nl : Netlist) (cell k : ℕ) (p : Place)
    (row : CallRow) : Type 0 where
  pub circuit : IsCircuitCell g.cells row.circuit p.cell
  pub each : (called : Circuit) (i inner u : ℕ) → IsCircuit nl row.circuit called
      → slice_get called.pins i ≡ Some inner → slice_get (g.parts p.cell).nets inner ≡ Some u
      → (outer : ℕ) × (x : ℕ) × (slice_get row.nets i ≡ Some outer)
      × (slice_get (g.parts cell).nets outer ≡ Some x) × IsNetOf (t.nets cell) (Child k u) x

-- the cell's circuit: its drawn nets, of them the pins; its good gates; a call for each placement
-- of a cell with a circuit
pub record IsPlannedCircuit (d : Design) (t : Tables) (g : CircuitTables) (nl : Netlist)
    (rules : List Rule) (unit cell : ℕ) (c : Circuit) : Type 0 where
  pub nets_apart : (a b x : ℕ) → slice_get (g.parts cell).nets a ≡ Some x
      → slice_get (g.parts cell).nets b ≡ Some x → a ≡ b
  pub nets_each : (a x : ℕ) → slice_get (g.parts cell).nets a ≡ Some x → IsDrawn g.drawn cell x
  pub nets_found : (x : ℕ) → IsDrawn g.drawn cell x → (a : ℕ)
      × (slice_get (g.parts cell).nets a ≡ Some x)
  pub pins_each : (i a : ℕ) → slice_get c.pins i ≡ Some a → (x : ℕ)
      × (slice_get (g.parts cell).nets a ≡ Some x) × IsPinNet g.pins cell x
  pub pins_found : (a x : ℕ) → slice_get (g.parts cell).nets a ≡ Some x → IsPinNet g.pins cell x
      → (i : ℕ) × (slice_get c.pins i ≡ Some a)
  pub rows_each : (i : ℕ) (row : DeviceRow) → slice_get c.devices i ≡ Some row
      → (gate : GoodGate) × (slice_get (good_gates (g.gates cell)) i ≡ Some gate)
      × IsDeviceOfGate rules unit (g.parts cell).nets gate row
  pub rows_found : (i : ℕ) (gate : GoodGate) → slice_get (good_gates (g.gates cell)) i ≡ Some gate
      → (row : DeviceRow) × (slice_get c.devices i ≡ Some row)
      × IsDeviceOfGate rules unit (g.parts cell).nets gate row
  pub calls_apart : (a b k : ℕ) → slice_get (g.parts cell).calls a ≡ Some k
      → slice_get (g.parts cell).calls b ≡ Some k → a ≡ b
  pub calls_each : (a : ℕ) (row : CallRow) → slice_get c.calls a ≡ Some row
      → (k : ℕ) × (p : Place) × (slice_get (g.parts cell).calls a ≡ Some k) × IsPlaced d cell k p
      × IsJoiningCall t g nl cell k p row
  pub calls_found : (a k : ℕ) → slice_get (g.parts cell).calls a ≡ Some k → (row : CallRow)
      × (slice_get c.calls a ≡ Some row)
  pub calls_all : (k m : ℕ) (p : Place) → IsPlaced d cell k p → IsCircuitCell g.cells m p.cell
      → (a : ℕ) × (slice_get (g.parts cell).calls a ≡ Some k)

-- the tables of pins, drawn nets and circuits
pub record ArePlanned (d : Design) (w : Wiring) (t : Tables) (g : CircuitTables) (nl : Netlist)
    (rules : List Rule) (unit : ℕ) : Type 0 where
  pub one : (m n cell : ℕ) → IsCircuitCell g.cells m cell → IsCircuitCell g.cells n cell → m ≡ n
  pub pins : (cell b : ℕ) → IsReached d cell → b < (t.nets cell).count → IsPinNet g.pins cell b
      ↔ (IsMarkedNet d w t cell b ⊎ IsUsedAbove d t g.gates g.pins cell b)
  pub drawn : (cell x : ℕ) → IsReached d cell → x < (t.nets cell).count → IsDrawn g.drawn cell x
      ↔ (HasGate g.gates cell x ⊎ IsDrawnBelow d t g.pins g.drawn cell x)
  pub circuits : (cell n : ℕ) (c : Circuit) → IsReached d cell → IsCircuitCell g.cells n cell
      → IsCircuit nl n c → IsPlannedCircuit d t g nl rules unit cell c
  pub found : (cell n : ℕ) → IsReached d cell → IsCircuitCell g.cells n cell → (c : Circuit)
      × IsCircuit nl n c
  pub gates : (cell i : ℕ) (gate : GoodGate) → IsReached d cell
      → slice_get (good_gates (g.gates cell)) i ≡ Some gate → (n : ℕ) × IsCircuitCell g.cells n cell
  pub placing : (cell k m : ℕ) (p : Place) → IsReached d cell → IsPlaced d cell k p
      → IsCircuitCell g.cells m p.cell → (n : ℕ) × IsCircuitCell g.cells n cell
