-- A layout of four circuits and a schematic of two: one circuit is flattened, one dropped, and two
-- are compared.
use Rattle.std.specs.Prelude.{ℕ, zero, suc, not, Bool, true, false, ltb, List, [], ◌∷◌, ◌++◌}
use Rattle.plain_netlist.specs.declared.kinds.DeviceKind.TheVariants.{Mos4}
use Rattle.plain_netlist.specs.Devices.{Both}
use Rattle.plain_netlist.specs.FlatLaws.{ExpandAlike}
use Rattle.plain_netlist.specs.Flats.{Corresponds, expanded}
use Rattle.plain_netlist.specs.Netlist.{DeviceRow, Circuit, Netlist, Slot}
use Rattle.plain_netlist.specs.Normal.{IsNormalNetlist}
use Rattle.plain_netlist.specs.Sound.{IsSoundNetlist, IsGood}
use Rattle.match_laws.specs.Circuits.{Pairing}
use Rattle.match_laws.specs.Answer.{Answer, Match}
use Rattle.align_laws.specs.Aligned.{IsAlignedBy, HasOnlyKept, AreKeptFrom}
use Rattle.align_laws.specs.Cut.{Alignment}
use Rattle.align_laws.specs.Partners.{IsAlignedPair, AreNamesakes, IsPartner, AreNamesApart}
use Rattle.align_laws.specs.Partners.{AreLinesApart}
use Rattle.composed_laws.specs.Answered.{AreAnswers, AreMatches}
use Rattle.law_samples.specs.Latch.{untold}
use Rattle.composed_laws.specs.Matched.{AreDevicesMatched, AreNetsMatched}

-- a transistor of 0.1 micrometres' length, with its drain, gate, source and bulk
abbrev pub transistor_of : ℕ → ℕ → ℕ → ℕ → ℕ → DeviceRow
transistor_of width drain gate source bulk = record {
  kind = Mos4;
  class = 78 ∷ [];
  sizes = 100000000 ∷ width ∷ [];
  ends = Both source drain;
  others = gate ∷ bulk ∷ [];
}

-- one of 1 micrometre's width
abbrev pub transistor : ℕ → ℕ → ℕ → ℕ → DeviceRow
transistor drain gate source bulk = transistor_of 1000000000 drain gate source bulk

-- the names A and B
abbrev pub a : List ℕ
a = 65 ∷ []

abbrev pub b : List ℕ
b = 66 ∷ []

-- VOID has nothing
abbrev pub void : Circuit
void = record { name = 86 ∷ 79 ∷ 73 ∷ 68 ∷ []; nets = []; pins = []; devices = []; calls = [] }

-- UNIT has a transistor between its two pins
abbrev pub unit : Circuit
unit = record {
  name = 85 ∷ 78 ∷ 73 ∷ 84 ∷ [];
  nets = a ∷ b ∷ [];
  pins = 0 ∷ 1 ∷ [];
  devices = transistor 1 1 0 0 ∷ [];
  calls = [];
}

-- MID has a transistor between its pin and a net of its own, and calls UNIT there
abbrev pub middle : Circuit
middle = record {
  name = 77 ∷ 73 ∷ 68 ∷ [];
  nets = a ∷ b ∷ [];
  pins = 0 ∷ [];
  devices = transistor 1 0 0 0 ∷ [];
  calls = record { circuit = 1; nets = 0 ∷ 1 ∷ [] } ∷ [];
}

-- TOP calls MID and VOID
abbrev pub outer : Circuit
outer = record {
  name = 84 ∷ 79 ∷ 80 ∷ [];
  nets = a ∷ [];
  pins = 0 ∷ [];
  devices = [];
  calls = record { circuit = 2; nets = 0 ∷ [] } ∷ record { circuit = 0; nets = [] } ∷ [];
}

abbrev pub layout : Netlist
layout = record { circuits = void ∷ unit ∷ middle ∷ outer ∷ [] }

-- the schematic's MID is the layout's UNIT with its pins the other way round
abbrev pub part : Circuit
part = record {
  name = 77 ∷ 73 ∷ 68 ∷ [];
  nets = a ∷ b ∷ [];
  pins = 0 ∷ 1 ∷ [];
  devices = transistor 0 0 1 1 ∷ [];
  calls = [];
}

-- its TOP has a transistor and calls that
abbrev pub whole : Circuit
whole = record {
  name = 84 ∷ 79 ∷ 80 ∷ [];
  nets = a ∷ b ∷ [];
  pins = 0 ∷ [];
  devices = transistor 1 0 0 0 ∷ [];
  calls = record { circuit = 0; nets = 1 ∷ 0 ∷ [] } ∷ [];
}

abbrev pub schematic : Netlist
schematic = record { circuits = part ∷ whole ∷ [] }

-- same_circuits("unit", "mid")
abbrev pub same : List (List ℕ × List ℕ)
same = (117 ∷ 110 ∷ 105 ∷ 116 ∷ [], 109 ∷ 105 ∷ 100 ∷ []) ∷ []

-- UNIT and TOP of the layout are kept, as the first and the second circuit
abbrev pub is_kept : ℕ → Bool
is_kept zero = false
is_kept (suc zero) = true
is_kept (suc (suc zero)) = false
is_kept (suc (suc (suc zero))) = true
is_kept (suc (suc (suc (suc n)))) = false

abbrev pub number_of : ℕ → ℕ
number_of zero = 0
number_of (suc zero) = 0
number_of (suc (suc zero)) = 0
number_of (suc (suc (suc zero))) = 1
number_of (suc (suc (suc (suc n)))) = 0

-- TOP's second net is B of MID, its first call
abbrev pub names_after : ℕ → List (List ℕ)
names_after zero = []
names_after (suc zero) = a ∷ b ∷ []
names_after (suc (suc zero)) = []
names_after (suc (suc (suc zero))) = a ∷ (88 ∷ 49 ∷ 47 ∷ 66 ∷ []) ∷ []
names_after (suc (suc (suc (suc n)))) = []

abbrev pub layout_alignment : Alignment
layout_alignment = record {
  kept = is_kept;
  number = number_of;
  held = λ c n. ltb n 2;
  new = λ c n. n;
  old = λ c n. n;
  names = names_after;
}

-- TOP with MID laid in, and without the call of VOID
abbrev pub flat_outer : Circuit
flat_outer = record {
  name = 84 ∷ 79 ∷ 80 ∷ [];
  nets = a ∷ (88 ∷ 49 ∷ 47 ∷ 66 ∷ []) ∷ [];
  pins = 0 ∷ [];
  devices = transistor 1 0 0 0 ∷ [];
  calls = record { circuit = 0; nets = 0 ∷ 1 ∷ [] } ∷ [];
}

abbrev pub left : Netlist
left = record { circuits = unit ∷ flat_outer ∷ [] }

-- both circuits of the schematic are kept as they are
abbrev pub schematic_alignment : Alignment
schematic_alignment = record {
  kept = λ c. ltb c 2;
  number = λ c. c;
  held = λ c n. ltb n 2;
  new = λ c n. n;
  old = λ c n. n;
  names = λ c. a ∷ b ∷ [];
}

-- UNIT's nets go to MID's, crosswise; TOP's as they stand
abbrev pub pairings : ℕ → Pairing
pairings zero = record { nets = 1 ∷ 0 ∷ []; devices = 0 ∷ []; calls = [] }
pairings (suc k) = record { nets = 0 ∷ 1 ∷ []; devices = 0 ∷ []; calls = 0 ∷ [] }

abbrev pub answers : ℕ → Answer
answers k = Match (pairings k)

abbrev pub IsChainPair : Type 0
IsChainPair =
    IsAlignedPair layout schematic 3 1 same left schematic layout_alignment schematic_alignment

-- both netlists are sound and in normal form; all premises of a reported match are met; and both
-- expand to the same
abbrev pub MatchedChainLaw : Type 0
MatchedChainLaw = IsSoundNetlist layout × IsSoundNetlist schematic
    × IsNormalNetlist layout × IsNormalNetlist schematic × IsGood layout (λ k. k)
    × ((p : IsChainPair) × AreAnswers left schematic untold answers
    × AreMatches left answers pairings × Corresponds (expanded layout 3) (expanded schematic 1)
    (AreDevicesMatched _ _ _ _ _ _ p.left_aligned p.right_aligned pairings 3 1)
    (AreNetsMatched _ _ _ _ _ _ p.left_aligned p.right_aligned pairings 3 1))

-- with VOID flattened too it is the same
abbrev pub AllFlattenedChainLaw : Type 0
AllFlattenedChainLaw = IsAlignedBy (λ c. not (is_kept c)) layout left layout_alignment
    × AreKeptFrom layout 3 is_kept

-- no two names are equal, so partners are one to one
abbrev pub NamesChainLaw : Type 0
NamesChainLaw = AreNamesApart layout × AreNamesApart schematic × AreLinesApart same

-- the MIDs have one name and are no partners, since a line names one of them
abbrev pub NamesakesChainLaw : Type 0
NamesakesChainLaw = AreNamesakes layout schematic 3 same 2 0
    × (IsPartner layout schematic 3 same 2 0 → ⊥)

-- a further circuit behind isn't an aligned netlist of kept circuits alone
abbrev pub FurtherChainLaw : Type 0
FurtherChainLaw = (x : Circuit)
    → HasOnlyKept (record { circuits = left.circuits ++ x ∷ [] }) layout_alignment → ⊥

-- the schematic with a transistor of twice the width
abbrev pub wide : Netlist
wide = record {
  circuits = record {
    name = part.name;
    nets = part.nets;
    pins = part.pins;
    devices = transistor_of 2000000000 0 0 1 1 ∷ [];
    calls = [];
  } ∷ whole ∷ [];
}

-- no pairs of devices and nets make that the same
abbrev pub WidthChainLaw : Type 0
WidthChainLaw = (device net : Slot → Slot → Bool) → ExpandAlike layout 3 wide 1 device net → ⊥
