-- The held pins of kept circuits, and the kept circuits, cut.
use Rattle.std.specs.Prelude.{◌≡◌, ◌<◌, ℕ, Bool, true, List, length, Option, Some, slice_get}
use Rattle.plain_netlist.specs.Netlist.{Circuit, Netlist}
use Rattle.align_laws.specs.Lists.{FlatCircuit, plain}
use Rattle.net_align.specs.Flattened.{Flattening}
use Rattle.net_align.specs.Sights.{cut_down, is_kept, own_pins, pins_of}
use Rattle.net_align.specs.Walked.{IsMarked}

-- what the code's tables stand for: a netlist, which circuits go, which are marked, and the flat
-- circuits
pub record Flattened : Type 0 where
  pub netlist : Netlist
  pub goes : ℕ → Bool
  pub marks : List Bool
  pub flattening : Flattening

-- kept circuits are circuits that are marked
abbrev pub AreKeptMarked : Netlist → List Bool → List (Option ℕ) → Type 0
AreKeptMarked g marks numbers =
    (c : ℕ) → is_kept numbers c ≡ true → (c < length g.circuits) × IsMarked marks c

-- a circuit's height is its place in the order
abbrev pub AreHeights : Flattening → List ℕ → Type 0
AreHeights f order = (i c : ℕ) → slice_get order i ≡ Some c → f.height c ≡ i

-- the table has the held pins of each kept circuit
pub record AreHeldPins (g : Netlist) (f : ℕ → FlatCircuit) (numbers : List (Option ℕ))
    (held : List (List ℕ)) : Type 0 where
  pub long : length held ≡ length g.circuits
  pub each : (c : ℕ) → is_kept numbers c ≡ true
      → pins_of held c ≡ own_pins numbers held (plain (f c))

-- of those among the first n of the order
pub record AreHeldBelow (g : Netlist) (f : ℕ → FlatCircuit) (numbers : List (Option ℕ))
    (order : List ℕ) (n : ℕ) (held : List (List ℕ)) : Type 0 where
  pub long : length held ≡ length g.circuits
  pub done : (j c : ℕ) → j < n → slice_get order j ≡ Some c → is_kept numbers c ≡ true
      → pins_of held c ≡ own_pins numbers held (plain (f c))

-- a flat circuit with the held pins that the table has, cut
abbrev pub cut_of : (ℕ → FlatCircuit) → List (Option ℕ) → List (List ℕ) → ℕ → Circuit
cut_of f numbers held c = cut_down numbers held (pins_of held c) (plain (f c))
