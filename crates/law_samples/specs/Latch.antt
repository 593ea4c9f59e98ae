-- A latch, and the same latch with its two inner nets drawn the other way round: one pair carried
-- through all premises of a match.
use Rattle.std.specs.Prelude.{◌<◌, ◌==◌, ltb, ℕ, false, List, [], ◌∷◌, None}
use Rattle.plain_netlist.specs.declared.kinds.DeviceKind.TheVariants.{Mos4}
use Rattle.plain_netlist.specs.Devices.{Both}
use Rattle.plain_netlist.specs.Flats.{Corresponds, expanded}
use Rattle.plain_netlist.specs.Netlist.{DeviceRow, Circuit, Netlist}
use Rattle.round_laws.specs.Nodes.{Side, Layout, Schematic}
use Rattle.match_laws.specs.Circuits.{Pair, Pairing, IsFitting, AreMatched, circuit_of}
use Rattle.match_laws.specs.Answer.{Answer, Match, equal_names, IsAnswer}
use Rattle.align_laws.specs.Cut.{Alignment}
use Rattle.align_laws.specs.Partners.{IsAlignedPair}
use Rattle.composed_laws.specs.Answered.{AreAnswers, AreMatches, Asked}
use Rattle.composed_laws.specs.Matched.{AreDevicesMatched, AreNetsMatched}

-- a transistor of 0.1 micrometres' length, with its drain, gate, source and bulk
abbrev pub transistor : List ℕ → ℕ → ℕ → ℕ → ℕ → ℕ → DeviceRow
transistor class width drain gate source bulk = record {
  kind = Mos4;
  class = class;
  sizes = 100000000 ∷ width ∷ [];
  ends = Both source drain;
  others = gate ∷ bulk ∷ [];
}

-- the bytes of NMOS and PMOS
abbrev pub nmos : List ℕ
nmos = 78 ∷ 77 ∷ 79 ∷ 83 ∷ []

abbrev pub pmos : List ℕ
pmos = 80 ∷ 77 ∷ 79 ∷ 83 ∷ []

-- BL, BLN, WL, VDD and VSS are pins; two inverters drive the nets 5 and 6, and two transistors of
-- half the width lead from BL and BLN to the two nets that are named last
abbrev pub latch : List ℕ → List ℕ → ℕ → ℕ → Circuit
latch fifth sixth bit other = record {
  name = 76 ∷ 65 ∷ 84 ∷ 67 ∷ 72 ∷ [];
  nets =
      (66 ∷ 76 ∷ []) ∷ (66 ∷ 76 ∷ 78 ∷ []) ∷ (87 ∷ 76 ∷ []) ∷ (86 ∷ 68 ∷ 68 ∷ [])
      ∷ (86 ∷ 83 ∷ 83 ∷ []) ∷ fifth ∷ sixth ∷ [];
  pins = 0 ∷ 1 ∷ 2 ∷ 3 ∷ 4 ∷ [];
  devices =
      transistor nmos 1000000000 5 6 4 4 ∷ transistor nmos 1000000000 6 5 4 4
      ∷ transistor pmos 1000000000 5 6 3 3 ∷ transistor pmos 1000000000 6 5 3 3
      ∷ transistor nmos 500000000 0 2 bit 4 ∷ transistor nmos 500000000 1 2 other 4 ∷ [];
  calls = [];
}

-- the layout has Q and QN for nets 5 and 6, with BL at Q; the schematic has Y and X, with BL at X
abbrev pub latches : Pair
latches = record {
  left = latch (81 ∷ []) (81 ∷ 78 ∷ []) 5 6;
  right = latch (89 ∷ []) (88 ∷ []) 6 5;
  children = λ k. None;
  told = false;
}

-- Q goes to X and QN to Y; each inverter's transistors go to those of the other one
abbrev pub swapped : Pairing
swapped = record {
  nets = 0 ∷ 1 ∷ 2 ∷ 3 ∷ 4 ∷ 6 ∷ 5 ∷ [];
  devices = 1 ∷ 0 ∷ 3 ∷ 2 ∷ 4 ∷ 5 ∷ [];
  calls = [];
}

-- both fit, and whatever the limit the answer is this match, by a guess, since the rounds leave
-- ties
abbrev pub LatchLaw : Type 0
LatchLaw = IsFitting latches Layout × IsFitting latches Schematic × AreMatched latches
    × ((limit : ℕ) → 0 < limit → IsAnswer latches (equal_names latches) limit (Match swapped))

-- each side as a netlist of one circuit
abbrev pub netlist_of : Side → Netlist
netlist_of side = record { circuits = circuit_of latches side ∷ [] }

-- aligning leaves such a netlist as it is: its one circuit is kept, and each net is held
abbrev pub alignment_of : Side → Alignment
alignment_of side = record {
  kept = λ c. c == 0;
  number = λ c. c;
  held = λ c n. ltb n 7;
  new = λ c n. n;
  old = λ c n. n;
  names = λ c. (circuit_of latches side).nets;
}

abbrev pub IsLatchPair : Type 0
IsLatchPair = IsAlignedPair (netlist_of Layout) (netlist_of Schematic) 0 0 []
    (netlist_of Layout) (netlist_of Schematic) (alignment_of Layout) (alignment_of Schematic)

abbrev pub answers : ℕ → Answer
answers k = Match swapped

-- one refuted guess is allowed, and names tell no pins apart
abbrev pub untold : Asked
untold = record { limit = 1; told = λ k. false }

abbrev pub pairings : ℕ → Pairing
pairings k = swapped

-- so all premises of a reported match are met, and both expand to the same
abbrev pub WholeLatchLaw : Type 0
WholeLatchLaw = (p : IsLatchPair)
    × AreAnswers (netlist_of Layout) (netlist_of Schematic) untold answers
    × AreMatches (netlist_of Layout) answers pairings
    × Corresponds (expanded (netlist_of Layout) 0) (expanded (netlist_of Schematic) 0)
    (AreDevicesMatched _ _ _ _ _ _ p.left_aligned p.right_aligned pairings 0 0)
    (AreNetsMatched _ _ _ _ _ _ p.left_aligned p.right_aligned pairings 0 0)
