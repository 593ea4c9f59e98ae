-- The origins of an aligned netlist's parts, as they are made.
use Rattle.std.specs.Prelude.{ℕ, ◌+◌, List, [], ◌∷◌, ◌++◌, length, map, filter, Option, Some, None}
use Rattle.std.specs.Prelude.{is_some, replicate, slice_get, slice_index_or}
use Rattle.align_laws.specs.Lists.{given_of}
use Rattle.plain_netlist.specs.Netlist.{Circuit, Netlist}
use Rattle.part_origins.specs.Inside.{PlainInside, PlainSpot, all_inside, plain_inside}
use Rattle.part_origins.specs.Kept.{going, holding, numbered, places_in, set_all, texts_from}
use Rattle.part_origins.specs.Nets.{named_nets, seen_nets}
use Rattle.part_origins.specs.Parts.{call_parts, device_parts}
use Rattle.part_origins.specs.declared.inside.Part.{Part}
use Rattle.part_origins.specs.declared.origins.CircuitOrigins.{CircuitOrigins}
use Rattle.part_origins.specs.declared.origins.Origins.{Origins}

pub record PlainOrigins : Type 0 where
  pub circuit : ℕ
  pub devices : List Part
  pub calls : List Part
  pub nets : List (Option ℕ)

pub record AllOrigins : Type 0 where
  pub insides : List PlainInside
  pub circuits : List PlainOrigins

abbrev pub plain_origins : CircuitOrigins → PlainOrigins
plain_origins x = record {
  circuit = x.circuit;
  devices = x.devices.items;
  calls = x.calls.items;
  nets = x.nets.items;
}

abbrev pub plain_all : Origins → AllOrigins
plain_all x = record {
  insides = map plain_inside x.insides.items;
  circuits = map plain_origins x.circuits.items;
}

abbrev pub inside_or : Option PlainInside → PlainInside
inside_or (Some x) = x
inside_or None = record { spots = []; count = 0 }

abbrev pub inside_at : List PlainInside → ℕ → PlainInside
inside_at insides c = inside_or (slice_get insides c)

module _ (g : Netlist) (numbers : List (Option ℕ)) (held : List (List ℕ)) where
  -- the number of each net of a flat circuit in the aligned circuit
  abbrev pub net_numbers : ℕ → List PlainSpot → Circuit → List (Option ℕ)
  net_numbers count spots x =
      set_all (replicate count None) 0 (seen_nets g numbers held spots) (named_nets x)

-- the pins of a circuit that have numbers
abbrev pub held_of : Netlist → ℕ → List (Option ℕ) → List ℕ
held_of g c nets =
    filter (λ n. is_some (slice_index_or nets n None)) (given_of g c).pins

module _ (g : Netlist) (insides : List PlainInside) (numbers : List (Option ℕ)) where
  -- the origins of circuit c, which is this one of the aligned netlist
  abbrev pub origins_of : List (List ℕ) → ℕ → Circuit → PlainOrigins
  origins_of held c x = record {
    circuit = c;
    devices = device_parts g 0 (inside_at insides c).spots;
    calls = call_parts g numbers 0 (inside_at insides c).spots;
    nets =
        net_numbers g numbers held (inside_at insides c).count (inside_at insides c).spots x;
  }

  -- of one circuit after the other behind those before them, the first of them being circuit i
  abbrev pub origins_from : List ℕ → ℕ → List (List ℕ) → List Circuit → List PlainOrigins
  origins_from kept i held [] = []
  origins_from kept i held (x ∷ xs) =
      let o : PlainOrigins = origins_of held (slice_index_or kept i 0) x in
      o ∷ origins_from kept (i + 1) (held ++ held_of g (slice_index_or kept i 0) o.nets ∷ []) xs

-- all of them, where these stand inside the circuits
abbrev pub origins_by : Netlist → Netlist → List ℕ → List (Option ℕ) → List PlainInside → AllOrigins
origins_by g o kept numbers insides =
    record { insides = insides; circuits = origins_from g insides numbers kept 0 [] o.circuits }

-- where these circuits are kept, under these numbers
abbrev pub origins_with : Netlist → Netlist → List ℕ → List (Option ℕ) → AllOrigins
origins_with g o kept numbers = origins_by g o kept numbers
    (all_inside (going numbers 0 (holding [] g.circuits)) [] 0 g.circuits)

-- those of the names of the aligned netlist
abbrev pub made_origins : Netlist → Netlist → AllOrigins
made_origins g o = origins_with g o (places_in (texts_from [] g.circuits) o.circuits)
    (numbered (places_in (texts_from [] g.circuits) o.circuits) (length g.circuits))
