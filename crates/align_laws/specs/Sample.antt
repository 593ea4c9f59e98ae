-- Three circuits, IN in MID in TOP, where MID has no partner: its flat caller, as lists.
use Rattle.std.specs.Prelude.{◌≡◌, ℕ, zero, suc, Bool, true, false, [], ◌∷◌}
use Rattle.plain_netlist.specs.declared.kinds.DeviceKind.TheVariants.{Mos4}
use Rattle.plain_netlist.specs.Devices.{Both}
use Rattle.plain_netlist.specs.Netlist.{DeviceRow, Circuit, Netlist, slot}
use Rattle.align_laws.specs.Lists.{FlatCircuit, inlined, plain, AreFlat}

-- a transistor with its source and bulk on one net
abbrev pub transistor : ℕ → ℕ → ℕ → DeviceRow
transistor source gate drain = record {
  kind = Mos4;
  class = 110 ∷ [];
  sizes = 1 ∷ 1 ∷ [];
  ends = Both source drain;
  others = gate ∷ source ∷ [];
}

-- the nets a, b, c; the first two are pins
abbrev pub inner : Circuit
inner = record {
  name = 105 ∷ [];
  nets = (97 ∷ []) ∷ (98 ∷ []) ∷ (99 ∷ []) ∷ [];
  pins = 0 ∷ 1 ∷ [];
  devices = transistor 0 1 2 ∷ [];
  calls = [];
}

-- the nets a, b, c; the first is a pin; it calls the inner one with a and c
abbrev pub middle : Circuit
middle = record {
  name = 109 ∷ [];
  nets = (97 ∷ []) ∷ (98 ∷ []) ∷ (99 ∷ []) ∷ [];
  pins = 0 ∷ [];
  devices = transistor 0 1 2 ∷ [];
  calls = record { circuit = 0; nets = 0 ∷ 2 ∷ [] } ∷ [];
}

-- the nets a and b; it calls the middle one with b
abbrev pub outer : Circuit
outer = record {
  name = 116 ∷ [];
  nets = (97 ∷ []) ∷ (98 ∷ []) ∷ [];
  pins = 0 ∷ [];
  devices = transistor 0 0 1 ∷ [];
  calls = record { circuit = 1; nets = 1 ∷ [] } ∷ [];
}

abbrev pub nested : Netlist
nested = record { circuits = inner ∷ middle ∷ outer ∷ [] }

-- the middle one is flattened
abbrev pub middle_goes : ℕ → Bool
middle_goes zero = false
middle_goes (suc zero) = true
middle_goes (suc (suc n)) = false

abbrev pub nothing : ℕ → FlatCircuit
nothing c = record { name = []; nets = []; pins = []; devices = []; calls = [] }

abbrev pub flat_nested : ℕ → FlatCircuit
flat_nested zero = inlined middle_goes nothing inner
flat_nested (suc zero) = inlined middle_goes nothing middle
flat_nested (suc (suc n)) = inlined middle_goes (λ c. inlined middle_goes nothing middle) outer

abbrev pub flat_netlist : Netlist
flat_netlist = record {
  circuits = plain (flat_nested 0) ∷ plain (flat_nested 1) ∷ plain (flat_nested 2) ∷ [];
}

-- the outer circuit's own device, then that of the middle one with its nets b and c as nets 2 and
-- 3; and the call of the inner one
abbrev pub NestedLaw : Type 0
NestedLaw = AreFlat nested flat_netlist middle_goes flat_nested
    × ((flat_nested 2).devices
    ≡ record { from = slot [] 0; row = transistor 0 0 1 }
    ∷ record { from = slot (0 ∷ []) 0; row = transistor 1 2 3 } ∷ [])
    × ((plain (flat_nested 2)).calls ≡ record { circuit = 0; nets = 1 ∷ 3 ∷ [] } ∷ [])
