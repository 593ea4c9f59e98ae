-- A circuit with a resistor and a diode, whose pins are told apart by their names: against one with
-- other numbers, the resistor's ends exchanged and its names in large letters a match, which keeps
-- the names; against one of which a pin has another name a difference.
use Rattle.std.specs.Prelude.{ℕ, true, List, [], ◌∷◌, None}
use Rattle.match_laws.specs.Answer.{Answer, equal_names, IsAnswer, IsDifference, Match}
use Rattle.match_laws.specs.Circuits.{IsCorrespondence, Pair, Pairing}
use Rattle.plain_netlist.specs.declared.kinds.DeviceKind.TheVariants.{Diode, ResistorWithBulk}
use Rattle.plain_netlist.specs.Devices.{Both, NoEnds}
use Rattle.plain_netlist.specs.Netlist.{Circuit, DeviceRow}

-- between nets a and b, over its bulk; and from its anode to its cathode
abbrev pub resistor : ℕ → ℕ → ℕ → DeviceRow
resistor a b bulk = record {
  kind = ResistorWithBulk;
  class = 82 ∷ [];
  sizes = 5 ∷ 2 ∷ [];
  ends = Both a b;
  others = bulk ∷ [];
}

abbrev pub diode : ℕ → ℕ → DeviceRow
diode anode cathode = record {
  kind = Diode;
  class = 68 ∷ [];
  sizes = 12 ∷ 14 ∷ [];
  ends = NoEnds;
  others = anode ∷ cathode ∷ [];
}

-- "t": its pins a and b, the net g between both devices, and the bulk k
abbrev pub drawn : Circuit
drawn = record {
  name = 116 ∷ [];
  nets = (97 ∷ []) ∷ (98 ∷ []) ∷ (103 ∷ []) ∷ (107 ∷ []) ∷ [];
  pins = 0 ∷ 1 ∷ [];
  devices = resistor 0 2 3 ∷ diode 1 2 ∷ [];
  calls = [];
}

-- "T": a pin "B", and one of this name at the resistor; the nets K and G
abbrev pub written : List ℕ → Circuit
written name = record {
  name = 84 ∷ [];
  nets = (66 ∷ []) ∷ name ∷ (75 ∷ []) ∷ (71 ∷ []) ∷ [];
  pins = 0 ∷ 1 ∷ [];
  devices = diode 0 3 ∷ resistor 3 1 2 ∷ [];
  calls = [];
}

abbrev pub named : List ℕ → Pair
named name = record { left = drawn; right = written name; children = λ q. None; told = true }

-- with the pin "A", and with the pin "C"
abbrev pub alike : Pair
alike = named (65 ∷ [])

abbrev pub unlike : Pair
unlike = named (67 ∷ [])

abbrev pub pairing : Pairing
pairing = record { nets = 1 ∷ 0 ∷ 3 ∷ 2 ∷ []; devices = 1 ∷ 0 ∷ []; calls = [] }

-- the answer is this match, which is a correspondence
abbrev pub NamedMatchLaw : Type 0
NamedMatchLaw = IsAnswer alike (equal_names alike) 0 (Match pairing)
    × IsCorrespondence alike pairing

-- whatever the answer is, it is a difference
abbrev pub OtherPinLaw : Type 0
OtherPinLaw = (a : Answer) → IsAnswer unlike (equal_names unlike) 0 a → IsDifference a
