-- A cell's circuit as it is made: over what was read of the cells below.
use Rattle.std.specs.Prelude.{◌≡◌, ℕ, Bool, true, List, Option, Some, None, length, slice_get}
use Rattle.geo_base.specs.declared.shapes.Rect.{Rect}
use Rattle.flat_layout.specs.Circuits.{AreCircuitCalls, AreCircuitDevices, AreCircuitPins}
use Rattle.flat_layout.specs.Circuits.{drawn_names, drawn_nets}
use Rattle.flat_layout.specs.Gates.{Rule}
use Rattle.flat_layout.specs.GateTables.{GateEntry}
use Rattle.flat_layout.specs.Layout.{Design}
use Rattle.flat_layout.specs.Nets.{CellNets}
use Rattle.flat_layout.specs.Pins.{CellPins}
use Rattle.plain_netlist.specs.Lists.{AreApart, IsListed}
use Rattle.plain_netlist.specs.Netlist.{Circuit}
use Rattle.plain_netlist.specs.Normal.{IsNormalCircuit}
use Rattle.circuit_phase.specs.Placed.{tables_with}

-- a circuit of a cell, whose nets are drawn nets of the cell, each once, under their names, with
-- the cell's drawn pins, good gates and calls, in normal form
pub record IsMadeOf (d : Design) (nets : ℕ → CellNets) (pins : ℕ → CellPins)
    (drawn : ℕ → List Bool) (circuits : List ℕ) (cell : ℕ) (gates : List GateEntry)
    (marks : List Bool) (rules : List Rule) (unit : ℕ) (c : Circuit) : Type 0 where
  pub on : List ℕ
  pub calls : List ℕ
  pub apart : AreApart on
  pub are_drawn : (x : ℕ) → IsListed x on → slice_get marks x ≡ Some true
  pub count : length c.nets ≡ length on
  pub named : (a k x : ℕ) → slice_get on a ≡ Some x → slice_get (drawn_nets marks) k ≡ Some x
      → slice_get c.nets a ≡ slice_get (drawn_names (pins cell) marks) k
  pub has_pins : AreCircuitPins (pins cell) marks on c
  pub has_devices : AreCircuitDevices rules unit gates on c
  pub has_calls : (own : ℕ → ℕ → List Rect) → AreCircuitCalls d (tables_with own nets) pins drawn
      circuits cell (record { nets = on; calls = calls }) c
  pub normal : IsNormalCircuit c

-- the circuit of this number, under its name, or none where the cell has no number
abbrev pub IsMadeOr : Design → (ℕ → CellNets) → (ℕ → CellPins) → (ℕ → List Bool) → List ℕ → ℕ
    → List GateEntry → List Bool → List Rule → ℕ → List (List ℕ) → Option ℕ → Option Circuit
    → Type 0
IsMadeOr d nets pins drawn circuits cell gates marks rules unit names None None = Unit {0}
IsMadeOr d nets pins drawn circuits cell gates marks rules unit names None (Some c) = ⊥
IsMadeOr d nets pins drawn circuits cell gates marks rules unit names (Some n) None = ⊥
IsMadeOr d nets pins drawn circuits cell gates marks rules unit names (Some n) (Some c) =
    (slice_get names n ≡ Some c.name)
    × IsMadeOf d nets pins drawn circuits cell gates marks rules unit c
