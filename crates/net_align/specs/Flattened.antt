-- Flat circuits, made in an order with callees first.
use Rattle.std.specs.Prelude.{◌≡◌, ◌<◌, ℕ, Bool, List, length, Option, Some, slice_get}
use Rattle.call_order.specs.Order.{Calls}
use Rattle.plain_netlist.specs.Netlist.{Netlist}
use Rattle.plain_netlist.specs.Sound.{IsGood}
use Rattle.align_laws.specs.Lists.{FlatCircuit, plain, AreFlat}
use Rattle.net_model.specs.Faults.{call_lists}
use Rattle.net_model.specs.Rows.{plain_circuit}
use Rattle.net_model.specs.declared.netlist.Circuit.{Circuit as CircuitRow}
use Rattle.net_align.specs.Walked.{IsMarked}

-- the flat circuits with the places that they are from, the same as a netlist, and a height
pub record Flattening : Type 0 where
  pub flat : Netlist
  pub flats : ℕ → FlatCircuit
  pub height : ℕ → ℕ

-- those of netlist g, in which these circuits go into their callers
pub record IsFlattening (g : Netlist) (goes : ℕ → Bool) (f : Flattening) : Type 0 where
  pub good : IsGood g f.height
  pub are : AreFlat g f.flat goes f.flats

-- the table has flat circuit c
pub record HasFlat (f : ℕ → FlatCircuit) (flats : List (Option CircuitRow)) (c : ℕ) : Type 0 where
  pub inner : CircuitRow
  pub there : slice_get flats c ≡ Some (Some inner)
  pub is : plain_circuit inner ≡ plain (f c)

-- what a marked circuit calls is marked
abbrev pub AreClosed : Netlist → List Bool → Type 0
AreClosed g marks =
    (a b : ℕ) → IsMarked marks a → Calls (call_lists g) a b → IsMarked marks b

-- the table has the flat circuits that are marked
pub record AreFlats (g : Netlist) (f : ℕ → FlatCircuit) (marks : List Bool)
    (flats : List (Option CircuitRow)) : Type 0 where
  pub long : length flats ≡ length g.circuits
  pub each : (c : ℕ) → c < length g.circuits → IsMarked marks c → HasFlat f flats c

-- those among the first n of the order
pub record AreFlatsBelow (g : Netlist) (f : ℕ → FlatCircuit) (marks : List Bool) (order : List ℕ)
    (n : ℕ) (flats : List (Option CircuitRow)) : Type 0 where
  pub long : length flats ≡ length g.circuits
  pub done : (j c : ℕ) → j < n → slice_get order j ≡ Some c → IsMarked marks c
      → HasFlat f flats c
