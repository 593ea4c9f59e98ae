-- The layout with transistors against a schematic whose circuits have other names for nets, pins in
-- another order, and source and drain exchanged: all premises of a reported match, and what it
-- says.
use Rattle.std.specs.Prelude.{◌≡◌, ◌⊎◌, ◌↔◌, ℕ, zero, suc, ltb, List, [], ◌∷◌}
use Rattle.align_laws.specs.Cut.{Alignment}
use Rattle.align_laws.specs.Partners.{IsAlignedPair}
use Rattle.composed_laws.specs.Answered.{AreAnswers, AreMatches}
use Rattle.composed_laws.specs.Matched.{AreDevicesMatched, AreNetsMatched}
use Rattle.flat_layout.specs.Circuits.{IsCircuitCell}
use Rattle.flat_layout.specs.Expanded.{AreTablesRight}
use Rattle.flat_layout.specs.GateTables.{GateSquare}
use Rattle.flat_layout.specs.Regions.{Node}
use Rattle.law_samples.specs.Sample.{sample_level}
use Rattle.law_samples.specs.Transistors.{at, child_circuit, gate_circuits, gate_design}
use Rattle.law_samples.specs.Transistors.{gate_netlist, gate_rules, gate_tables, gate_wiring}
use Rattle.law_samples.specs.Transistors.{parent_circuit, row_on}
use Rattle.headline_laws.specs.FlatNetlist.{flat_netlist, IsFlatDevice, IsFlatGateOf}
use Rattle.headline_laws.specs.FlatNetlist.{IsFlatRegionOf}
use Rattle.law_samples.specs.Latch.{untold}
use Rattle.match_laws.specs.Answer.{Answer, Match}
use Rattle.match_laws.specs.Circuits.{Pairing}
use Rattle.plain_netlist.specs.Devices.{Row}
use Rattle.plain_netlist.specs.Flats.{Corresponds, expanded, Reversed, Through}
use Rattle.plain_netlist.specs.Netlist.{Circuit, Netlist}

-- the names s, o, a, i
abbrev pub s : List ℕ
s = 115 ∷ []

abbrev pub o : List ℕ
o = 111 ∷ []

abbrev pub a : List ℕ
a = 97 ∷ []

abbrev pub i : List ℕ
i = 105 ∷ []

-- "c": its pins s and o, and a transistor from o to a with the gate i
abbrev pub part : Circuit
part = record {
  name = 99 ∷ [];
  nets = s ∷ o ∷ a ∷ i ∷ [];
  pins = 0 ∷ 1 ∷ [];
  devices = row_on 1 3 2 0 ∷ [];
  calls = [];
}

-- "p": its pins o and s, a transistor, and a call of c
abbrev pub whole : Circuit
whole = record {
  name = 112 ∷ [];
  nets = o ∷ s ∷ i ∷ a ∷ [];
  pins = 0 ∷ 1 ∷ [];
  devices = row_on 3 2 0 1 ∷ [];
  calls = record { circuit = 0; nets = 1 ∷ 0 ∷ [] } ∷ [];
}

abbrev pub schematic : Netlist
schematic = record { circuits = part ∷ whole ∷ [] }

-- two circuits of four nets, kept as they are
abbrev pub as_it_is : Circuit → Circuit → Alignment
as_it_is c d = record {
  kept = λ k. ltb k 2;
  number = λ k. k;
  held = λ k n. ltb n 4;
  new = λ k n. n;
  old = λ k n. n;
  names = λ k. elim k [ zero ↦ c.nets | suc m ↦ d.nets ];
}

-- c's nets go to c's crosswise, p's as they stand
abbrev pub pairings : ℕ → Pairing
pairings zero = record { nets = 1 ∷ 0 ∷ 3 ∷ 2 ∷ []; devices = 0 ∷ []; calls = [] }
pairings (suc k) = record { nets = 0 ∷ 1 ∷ 2 ∷ 3 ∷ []; devices = 0 ∷ []; calls = 0 ∷ [] }

abbrev pub answers : ℕ → Answer
answers k = Match (pairings k)

abbrev pub IsSamplePair : Type 0
IsSamplePair = IsAlignedPair gate_netlist schematic 1 1 [] gate_netlist schematic
    (as_it_is child_circuit parent_circuit) (as_it_is part whole)

-- all premises are met; and the flat layout corresponds to the schematic
abbrev pub MatchedSampleLaw : Type 0
MatchedSampleLaw =
    AreTablesRight gate_design gate_wiring gate_tables gate_circuits gate_netlist gate_rules 1000
    sample_level
    × IsCircuitCell gate_circuits.cells 1 gate_design.top
    × ((p : IsSamplePair) × AreAnswers gate_netlist schematic untold answers
    × AreMatches gate_netlist answers pairings
    × Corresponds (flat_netlist gate_design gate_wiring gate_rules 1000) (expanded schematic 1)
    (Through (Reversed (IsFlatGateOf gate_design gate_wiring gate_circuits gate_netlist 1
    gate_rules))
    (AreDevicesMatched _ _ _ _ _ _ p.left_aligned p.right_aligned pairings 1 1))
    (Through (Reversed (IsFlatRegionOf gate_design gate_wiring gate_tables gate_circuits
    gate_netlist 1))
    (AreNetsMatched _ _ _ _ _ _ p.left_aligned p.right_aligned pairings 1 1)))

-- the flat layout has two devices, in columns 1 and 3
abbrev pub TwoDevicesLaw : Type 0
TwoDevicesLaw = (g : GateSquare)
    → ((row : Row Node) × IsFlatDevice gate_design gate_wiring gate_rules 1000 g row)
    ↔ ((g ≡ record { rule = 0; square = at 1 }) ⊎ (g ≡ record { rule = 0; square = at 3 }))
