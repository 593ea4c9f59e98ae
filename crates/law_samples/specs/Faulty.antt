-- Small netlists that show each fault, and which fault and circuit come first.
use Rattle.std.specs.Prelude.{ℕ, List, [], ◌∷◌}
use Rattle.plain_netlist.specs.Netlist.{CallRow, Circuit, Netlist}
use Rattle.plain_netlist.specs.Sound.{NameClash, BadTerminal, NoSuchCircuit, PinCount, CircuitCycle}
use Rattle.plain_netlist.specs.Sound.{IsFirstFault}

-- a circuit A without devices
abbrev pub circuit : List (List ℕ) → List ℕ → List CallRow → Circuit
circuit nets pins calls = record {
  name = 65 ∷ [];
  nets = nets;
  pins = pins;
  devices = [];
  calls = calls;
}

abbrev pub one : Circuit → Netlist
one x = record { circuits = x ∷ [] }

abbrev pub call : ℕ → List ℕ → List CallRow
call c nets = record { circuit = c; nets = nets } ∷ []

-- a pin on no net
abbrev pub bad_pin : Circuit
bad_pin = circuit [] (0 ∷ []) []

-- a call of no circuit
abbrev pub calls_none : Circuit
calls_none = circuit [] [] (call 1 [])

-- a call of itself with a net too few
abbrev pub calls_short : Circuit
calls_short = circuit ((66 ∷ []) ∷ []) (0 ∷ []) (call 0 [])

-- a call of itself
abbrev pub calls_itself : Circuit
calls_itself = circuit ((66 ∷ []) ∷ []) (0 ∷ []) (call 0 (0 ∷ []))

-- equal names come before nets that aren't there, and another number of pins before the cycle
abbrev pub FirstFaultsLaw : Type 0
FirstFaultsLaw = IsFirstFault (record { circuits = bad_pin ∷ bad_pin ∷ [] }) NameClash 1
    × IsFirstFault (one bad_pin) BadTerminal 0
    × IsFirstFault (one calls_none) NoSuchCircuit 0
    × IsFirstFault (one calls_short) PinCount 0
    × IsFirstFault (one calls_itself) CircuitCycle 0
