-- Dropping: of each kept circuit the held nets and pins, its devices and its calls of kept
-- circuits, under new numbers.
use Rattle.std.specs.Prelude.{◌≡◌, ◌⊎◌, ◌↔◌, ℕ, Bool, true, cond, List, [], ◌∷◌, map, Some}
use Rattle.std.specs.Prelude.{slice_get}
use Rattle.plain_netlist.specs.Lists.{IsListed}
use Rattle.plain_netlist.specs.Devices.{row_over, terminal_nets}
use Rattle.plain_netlist.specs.Netlist.{DeviceRow, CallRow, Circuit, Netlist, IsCircuit}
use Rattle.plain_netlist.specs.Netlist.{IsCall, IsDevice, IsPin, Slot, slot}
use Rattle.align_laws.specs.Flat.{below}
use Rattle.align_laws.specs.Lists.{pieces, joined_place, net_at_pin, given_of, row_of}

-- how a netlist is aligned: the circuits that are kept and the number of each; of each circuit the
-- nets that are held, their numbers after and before, and their names after
pub record Alignment : Type 0 where
  pub kept : ℕ → Bool
  pub number : ℕ → ℕ
  pub held : ℕ → ℕ → Bool
  pub new : ℕ → ℕ → ℕ
  pub old : ℕ → ℕ → ℕ
  pub names : ℕ → List (List ℕ)

-- a call that stays, and its number before
pub record CutCall : Type 0 where
  pub from : ℕ
  pub row : CallRow

module _ (f : Netlist) (w : Alignment) where
  abbrev pub held_pin : ℕ → ℕ → ℕ → List ℕ
  held_pin c i n = cond (w.held c n) (n ∷ []) []

  -- the pins of circuit c that are held, in order
  abbrev pub held_pins : ℕ → List ℕ
  held_pins c = pieces (held_pin c) (given_of f c).pins

  -- the call with the held pins of the called circuit alone
  abbrev pub cut_row : ℕ → CallRow → CallRow
  cut_row c row = record {
    circuit = w.number row.circuit;
    nets = map (λ p. w.new c (net_at_pin row.nets (λ m. 0) p)) (held_pins row.circuit);
  }

  abbrev pub cut_call : ℕ → ℕ → CallRow → List CutCall
  cut_call c k row = cond (w.kept row.circuit) (record { from = k; row = cut_row c row } ∷ []) []

  -- the calls of kept circuits, in order
  abbrev pub cut_calls : ℕ → List CutCall
  cut_calls c = pieces (cut_call c) (given_of f c).calls

  -- circuit c, cut
  abbrev pub cut : ℕ → Circuit
  cut c = record {
    name = (given_of f c).name;
    nets = w.names c;
    pins = map (w.new c) (held_pins c);
    devices = map (row_over (w.new c)) (given_of f c).devices;
    calls = map (λ (r : CutCall). r.row) (cut_calls c);
  }

  -- where call k stands in the cut circuit
  abbrev pub cut_number : ℕ → ℕ → ℕ
  cut_number c k = joined_place (cut_call c) (given_of f c).calls k 0

  -- where a path of calls, and a net at its end, stand
  abbrev pub cut_path : ℕ → List ℕ → List ℕ
  cut_path c [] = []
  cut_path c (k ∷ ks) = cut_number c k ∷ cut_path (row_of f c k).circuit ks

  abbrev pub cut_slot : ℕ → List ℕ → ℕ → Slot
  cut_slot c [] n = slot [] (w.new c n)
  cut_slot c (k ∷ ks) n = below (cut_number c k) (cut_slot (row_of f c k).circuit ks n)

-- a device has a terminal on the net
abbrev pub OnDevice : Netlist → ℕ → ℕ → Type 0
OnDevice f c n = (j : ℕ) × (row : DeviceRow) × IsDevice f c j row × IsListed n (terminal_nets row)

-- a call of a kept circuit has a held pin on the net
abbrev pub OnHeldPin : Netlist → Alignment → ℕ → ℕ → Type 0
OnHeldPin f w c n = (k : ℕ) × (row : CallRow) × (p : ℕ) × (inner : ℕ)
    × IsCall f c k row × (w.kept row.circuit ≡ true) × (slice_get row.nets p ≡ Some n)
    × IsPin f row.circuit p inner × (w.held row.circuit inner ≡ true)

-- the held nets of kept circuits: those with a device terminal or a held pin of a kept call
abbrev pub AreHeld : Netlist → Alignment → Type 0
AreHeld f w = (c n : ℕ) → w.kept c ≡ true
    → (w.held c n ≡ true) ↔ (OnDevice f c n ⊎ OnHeldPin f w c n)

-- the netlist o has the kept circuits of f, cut
pub record AreCut (f o : Netlist) (w : Alignment) : Type 0 where
  pub given : (c : ℕ) → w.kept c ≡ true → (x : Circuit) × IsCircuit f c x
  pub there : (c : ℕ) → w.kept c ≡ true → IsCircuit o (w.number c) (cut f w c)
  pub held : AreHeld f w
  pub back : (c n : ℕ) → w.held c n ≡ true → w.old c (w.new c n) ≡ n
