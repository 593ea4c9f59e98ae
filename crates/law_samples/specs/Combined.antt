-- The layout with transistors against a schematic in which each transistor is two fingers: all
-- premises of a reported match by rules that combine devices, and what it says.
use Rattle.std.specs.Prelude.{◌≡◌, ℕ, List, [], ◌∷◌}
use Rattle.align_laws.specs.Partners.{IsAlignedPair}
use Rattle.composed_laws.specs.Matched.{AreDevicesMatched, AreNetsMatched}
use Rattle.law_samples.specs.Transistors.{child_circuit, gate_circuits, gate_design, gate_netlist}
use Rattle.law_samples.specs.Transistors.{gate_rules, gate_tables, gate_wiring, nmos}
use Rattle.law_samples.specs.Transistors.{parent_circuit}
use Rattle.headline_laws.specs.FlatNetlist.{flat_netlist, IsFlatGateOf, IsFlatRegionOf}
use Rattle.law_samples.specs.Matched.{as_it_is, pairings, part, schematic, whole}
use Rattle.merge_laws.specs.Grouped.{IsMadeOf, merged_netlist}
use Rattle.merge_laws.specs.Merge.{merged}
use Rattle.plain_netlist.specs.declared.kinds.DeviceKind.TheVariants.{Mos4}
use Rattle.plain_netlist.specs.Devices.{Both}
use Rattle.plain_netlist.specs.Flats.{Corresponds, expanded, Reversed, Through}
use Rattle.plain_netlist.specs.Netlist.{Circuit, DeviceRow, Netlist}

-- a transistor of half the width
abbrev pub finger : ℕ → ℕ → ℕ → ℕ → DeviceRow
finger source gate drain bulk = record {
  kind = Mos4;
  class = nmos;
  sizes = 1000000 ∷ 500000 ∷ [];
  ends = Both source drain;
  others = gate ∷ bulk ∷ [];
}

-- the circuit with other transistors
abbrev pub with_devices : Circuit → List DeviceRow → Circuit
with_devices c devices =
    record { name = c.name; nets = c.nets; pins = c.pins; devices = devices; calls = c.calls }

-- "c" and "p", each transistor in two fingers; source and drain of one finger are exchanged
abbrev pub fingers : Netlist
fingers = record {
  circuits = with_devices part (finger 1 3 2 0 ∷ finger 2 3 1 0 ∷ [])
      ∷ with_devices whole (finger 3 2 0 1 ∷ finger 3 2 0 1 ∷ []) ∷ [];
}

abbrev pub IsCombinedPair : Type 0
IsCombinedPair = IsAlignedPair (merged_netlist gate_netlist) (merged_netlist fingers) 1 1 []
    gate_netlist schematic (as_it_is child_circuit parent_circuit) (as_it_is part whole)

-- all premises are met; and the flat layout, merged, corresponds to the schematic, merged
abbrev pub CombinedSampleLaw : Type 0
CombinedSampleLaw =
    (merged_netlist gate_netlist ≡ gate_netlist) × (merged_netlist fingers ≡ schematic)
    × ((p : IsCombinedPair)
    × Corresponds (merged (flat_netlist gate_design gate_wiring gate_rules 1000))
    (merged (expanded fingers 1))
    (Through (Reversed (IsFlatGateOf gate_design gate_wiring gate_circuits gate_netlist 1
    gate_rules))
    (Through (Reversed (IsMadeOf gate_netlist 1))
    (Through (AreDevicesMatched _ _ _ _ _ _ p.left_aligned p.right_aligned pairings 1 1)
    (IsMadeOf fingers 1))))
    (Through (Reversed (IsFlatRegionOf gate_design gate_wiring gate_tables gate_circuits
    gate_netlist 1))
    (AreNetsMatched _ _ _ _ _ _ p.left_aligned p.right_aligned pairings 1 1)))
