-- The circuits that are called from the top, and those with devices.
use Rattle.std.specs.Prelude.{◌≡◌, ◌↔◌, ◌+◌, ◌<◌, ◌≤◌, ℕ, Bool, true, false, ◌==◌, ◌||◌, not, List}
use Rattle.std.specs.Prelude.{length, Some, slice_get, slice_index_or}
use Rattle.std.specs.List.{list_any}
use Rattle.call_order.specs.Order.{Calls}
use Rattle.plain_netlist.specs.Netlist.{Netlist}
use Rattle.plain_netlist.specs.Sound.{HasDevices, IsCalledFrom}
use Rattle.net_model.specs.Faults.{call_lists}
use Rattle.net_model.specs.declared.netlist.Circuit.{Circuit}

-- the mark is there and set
abbrev pub IsMarked : List Bool → ℕ → Type 0
IsMarked marks c = slice_index_or marks c false ≡ true

-- the marks of circuits with a property
pub record AreMarks (nl : Netlist) (P : ℕ → Type 0) (marks : List Bool) : Type 0 where
  pub long : length marks ≡ length nl.circuits
  pub each : (c : ℕ) → c < length nl.circuits → IsMarked marks c ↔ P c

abbrev pub AreReached : Netlist → ℕ → List Bool → Type 0
AreReached nl top marks = AreMarks nl (IsCalledFrom nl top) marks

abbrev pub AreHolding : Netlist → List Bool → Type 0
AreHolding nl marks = AreMarks nl (HasDevices nl) marks

-- the marks when the last n circuits of the order were walked: the callees of those that are
-- marked are
pub record IsReaching (nl : Netlist) (top : ℕ) (order : List ℕ) (n : ℕ)
    (marks : List Bool) : Type 0 where
  pub long : length marks ≡ length nl.circuits
  pub has_top : IsMarked marks top
  pub from : (c : ℕ) → IsMarked marks c → IsCalledFrom nl top c
  pub done : (j a b : ℕ) → length order ≤ j + n → slice_get order j ≡ Some a → IsMarked marks a
      → Calls (call_lists nl) a b → IsMarked marks b

-- a device stands in the circuit, or a circuit that it calls is marked
abbrev pub holds : List Bool → Circuit → Bool
holds marks c =
    not (length c.devices.items == 0)
    || list_any (λ r. slice_index_or marks r.circuit false) c.calls.items

-- the marks of the first n circuits of the order
pub record IsHoldingBelow (nl : Netlist) (order : List ℕ) (n : ℕ) (marks : List Bool) : Type 0 where
  pub long : length marks ≡ length nl.circuits
  pub done : (j a : ℕ) → j < n → slice_get order j ≡ Some a → IsMarked marks a ↔ HasDevices nl a
