-- What merging a circuit and a netlist answer.
use Rattle.std.specs.Prelude.{◌≡◌, ℕ, Bool, true, false, Option, Some, None, length, nat_lt}
use Rattle.std.specs.List.{list_any}
use Rattle.plain_netlist.specs.Flats.{Corresponds, expanded}
use Rattle.plain_netlist.specs.Netlist.{Circuit, DeviceRow, Netlist, IsCircuit, IsDevice}
use Rattle.merge_laws.specs.Grouped.{AreUnlike, IsMadeOf, groups, is_too_wide, is_wide}
use Rattle.merge_laws.specs.Grouped.{merged_circuit}
use Rattle.merge_laws.specs.Merge.{merged}
use Rattle.net_model.specs.Rows.{plain_circuit}
use Rattle.net_model.specs.Tests.{first_of}
use Rattle.net_model.specs.declared.netlist.Circuit.{Circuit as Held}
use Rattle.device_merge.specs.Merging.{are_wider}
use Rattle.device_merge.specs.declared.fault.MergeFault.{MergeFault}
use Rattle.device_merge.specs.declared.fault.MergeFault.TheVariants.{NoMemory, TooWide}

-- the circuit with each group of alike transistors as one, or none where one of them is wider than
-- this
abbrev pub IsCircuitMergedBy : ℕ → Circuit → Option Held → Type 0
IsCircuitMergedBy most c None = are_wider most (groups c.devices) ≡ true
IsCircuitMergedBy most c (Some m) =
    (plain_circuit m ≡ merged_circuit c) × (are_wider most (groups c.devices) ≡ false)

-- the circuit with each group of alike transistors as one, or none where one of them is too wide
abbrev pub IsMergedCircuit : Circuit → Option Held → Type 0
IsMergedCircuit c None = is_too_wide c ≡ true
IsMergedCircuit c (Some m) = (plain_circuit m ≡ merged_circuit c) × (is_too_wide c ≡ false)

-- the first circuit that has one too wide; or want of memory
abbrev pub IsMergeFault : Netlist → MergeFault → Type 0
IsMergeFault nl (TooWide k) = first_of is_too_wide nl.circuits ≡ Some k
IsMergeFault nl NoMemory = Unit {0}

-- no device that may become one with others is wider than 10^27 femtometres
abbrev pub IsNarrow : Netlist → Type 0
IsNarrow nl = (t i : ℕ) (row : DeviceRow) → IsDevice nl t i row → is_wide row ≡ false

-- merging makes the circuit's devices fewer: some are alike
abbrev pub is_shorter : Circuit → Bool
is_shorter c = nat_lt (length (groups c.devices)) (length c.devices)

-- so for one of the circuits; where it isn't, the merged netlist is the given one
abbrev pub has_alike : Netlist → Bool
has_alike nl = list_any is_shorter nl.circuits

-- no circuit has two alike transistors
abbrev pub AreAllUnlike : Netlist → Type 0
AreAllUnlike nl = (t : ℕ) (c : Circuit) → IsCircuit nl t c → AreUnlike c

-- each circuit of the given and of the made netlist expands to the same where each class of alike
-- transistors is one, by the same nets
abbrev pub AreMergedAlike : Netlist → Netlist → Type 0
AreMergedAlike given made = (t : ℕ)
    → Corresponds (merged (expanded made t)) (merged (expanded given t)) (IsMadeOf given t)
    (λ a x. a ≡ x)
