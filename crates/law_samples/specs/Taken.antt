-- A pair that differs, called by the tops' pair: where what differs is taken apart, it goes, and the
-- tops' pair stays.
use Rattle.std.specs.Prelude.{true, false, [], ◌∷◌}
use Rattle.law_samples.specs.Kinds.{drawn, unlike, written}
use Rattle.match_laws.specs.Answer.{Answer, equal_names, IsAnswer, Skipped}
use Rattle.pair_turns.specs.Going.{AreGoing}
use Rattle.plain_netlist.specs.Netlist.{Circuit, Netlist}

-- "p": a call of circuit 0
abbrev pub caller : Circuit
caller = record {
  name = 112 ∷ [];
  nets = (120 ∷ []) ∷ (121 ∷ []) ∷ [];
  pins = [];
  devices = [];
  calls = record { circuit = 0; nets = 0 ∷ 1 ∷ [] } ∷ [];
}

abbrev pub near : Netlist
near = record { circuits = drawn ∷ caller ∷ [] }

abbrev pub far : Netlist
far = record { circuits = written (67 ∷ []) ∷ caller ∷ [] }

-- whatever the answer of the called pair is, which has another name at a pin
abbrev pub TakenApartLaw : Type 0
TakenApartLaw = (a : Answer) → IsAnswer unlike (equal_names unlike) 0 a
    → AreGoing near far (a ∷ Skipped 0 ∷ []) (true ∷ false ∷ [])
