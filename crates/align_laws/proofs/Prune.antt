-- Dropping as a relation between two netlists: nets that hold nothing go, with their pins, and calls of circuits without devices; what
-- stays has new numbers. Cut lists are such.
use Rattle.std.proofs.Common.{◌≡◌, ◌↔◌, ℕ, Bool, true, false, List, [], ◌∷◌, Option, Some, None, slice_get, refl, ap}
use Rattle.plain_netlist.specs.Netlist.{DeviceRow, CallRow, Netlist, IsCall, IsDevice, IsPin, Slot, InOneNet, HasDevice, slot, IsOnPin}
use Rattle.plain_netlist.specs.Lists.{IsListed}
use Rattle.plain_netlist.specs.Devices.{terminal_nets, row_over, IsRowOver}
use Rattle.align_laws.specs.Flat.{below}
use Rattle.align_laws.specs.Lists.{row_of}
use Rattle.align_laws.specs.Cut.{Alignment, CutCall, cut_calls, cut_number, cut_path, cut_slot}

-- kept circuits and their numbers; of each circuit the nets that are held; new numbers of nets and calls, and the old ones of those
pub record Cuts : Type 0 where
  pub number : ℕ → ℕ
  pub kept : ℕ → Bool
  pub held : ℕ → ℕ → Bool
  pub target : ℕ → ℕ → ℕ
  pub net : ℕ → ℕ → ℕ
  pub net_back : ℕ → ℕ → ℕ
  pub call : ℕ → ℕ → ℕ
  pub call_back : ℕ → ℕ → ℕ

-- each held pin of a kept call is a pin of the new call, with the new numbers
abbrev pub ArePinsKept : Netlist → Netlist → Cuts → ℕ → CallRow → CallRow → Type 0
ArePinsKept f o v c row other = (p outer inner : ℕ) → slice_get row.nets p ≡ Some outer → IsPin f row.circuit p inner → v.held row.circuit inner ≡ true
    → (v.held c outer ≡ true) × (q : ℕ) × (slice_get other.nets q ≡ Some (v.net c outer)) × IsPin o other.circuit q (v.net row.circuit inner)

-- and each pin that is left is one of those
abbrev pub ArePinsBack : Netlist → Netlist → Cuts → ℕ → CallRow → CallRow → Type 0
ArePinsBack f o v c row other = (q outer inner : ℕ) → slice_get other.nets q ≡ Some outer → IsPin o other.circuit q inner
    → (p : ℕ) × (slice_get row.nets p ≡ Some (v.net_back c outer)) × IsPin f row.circuit p (v.net_back row.circuit inner)

-- circuit c with its dropped nets, pins and calls gone, under new numbers
pub record IsPruned (f o : Netlist) (v : Cuts) (c : ℕ) : Type 0 where
  pub target : (k : ℕ) (row : CallRow) → IsCall f c k row → v.target c k ≡ row.circuit
  pub device : (j : ℕ) (row : DeviceRow) → IsDevice f c j row → IsDevice o (v.number c) j (row_over (v.net c) row)
  pub device_back : (j : ℕ) (other : DeviceRow) → IsDevice o (v.number c) j other → (row : DeviceRow) × IsDevice f c j row
  pub terminal : (j n : ℕ) (row : DeviceRow) → IsDevice f c j row → IsListed n (terminal_nets row) → v.held c n ≡ true
  pub call : (k : ℕ) (row : CallRow) → IsCall f c k row → v.kept row.circuit ≡ true
      → (other : CallRow) × IsCall o (v.number c) (v.call c k) other × (other.circuit ≡ v.number row.circuit) × (v.call_back c (v.call c k) ≡ k) × ArePinsKept f o v c row other
  -- only circuits with no device in or below them go
  pub dead : (k : ℕ) (row : CallRow) → IsCall f c k row → v.kept row.circuit ≡ false → (path : List ℕ) (j : ℕ) (r : DeviceRow) → HasDevice f row.circuit path j r → ⊥
  pub call_back : (e : ℕ) (other : CallRow) → IsCall o (v.number c) e other
      → (row : CallRow) × IsCall f c (v.call_back c e) row × (v.kept row.circuit ≡ true) × (v.call c (v.call_back c e) ≡ e) × (other.circuit ≡ v.number row.circuit) × ArePinsBack f o v c row other
  pub net_back : (n : ℕ) → v.held c n ≡ true → v.net_back c (v.net c n) ≡ n
  pub pin : (i n : ℕ) → IsPin f c i n → v.held c n ≡ true → (q : ℕ) × IsPin o (v.number c) q (v.net c n)
  pub pin_back : (q m : ℕ) → IsPin o (v.number c) q m → (i : ℕ) × (n : ℕ) × IsPin f c i n × (v.held c n ≡ true) × (v.net c n ≡ m)

-- each kept circuit is cut so
pub record ArePruned (f o : Netlist) (v : Cuts) : Type 0 where
  pub each : (c : ℕ) → v.kept c ≡ true → IsPruned f o v c
  -- no net is two pins
  pub apart : (c i j n : ℕ) → IsPin f c i n → IsPin f c j n → i ≡ j

-- a held net of a circuit at the end of a path of calls of kept circuits
abbrev pub IsHeldSlot : Netlist → Cuts → ℕ → List ℕ → ℕ → Type 0
IsHeldSlot f v c [] n = v.held c n ≡ true
IsHeldSlot f v c (k ∷ ks) n = (row : CallRow) × IsCall f c k row × (v.kept row.circuit ≡ true) × IsHeldSlot f v row.circuit ks n

-- a slot and a path in the new numbers
abbrev pub new_slot : Cuts → ℕ → List ℕ → ℕ → Slot
new_slot v c [] n = slot [] (v.net c n)
new_slot v c (k ∷ ks) n = below (v.call c k) (new_slot v (v.target c k) ks n)

abbrev pub new_path : Cuts → ℕ → List ℕ → List ℕ
new_path v c [] = []
new_path v c (k ∷ ks) = v.call c k ∷ new_path v (v.target c k) ks

-- held slots are on one net, or on a pin, exactly where their images are; devices go one to one and onto, with class, sizes and terminals
pub record IsPrunedExpansion (f o : Netlist) (v : Cuts) (c : ℕ) : Type 0 where
  -- terminals stand on held nets
  pub terminal : (path : List ℕ) (j n : ℕ) (row : DeviceRow) → HasDevice f c path j row → IsListed n (terminal_nets row) → IsHeldSlot f v c path n
  pub nets : (a b : Slot) → IsHeldSlot f v c a.path a.net → IsHeldSlot f v c b.path b.net
      → InOneNet f c a b ↔ InOneNet o (v.number c) (new_slot v c a.path a.net) (new_slot v c b.path b.net)
  pub pins : (a : Slot) → IsHeldSlot f v c a.path a.net → IsOnPin f c a ↔ IsOnPin o (v.number c) (new_slot v c a.path a.net)
  pub device : (path : List ℕ) (j : ℕ) (row : DeviceRow) → HasDevice f c path j row
      → (other : DeviceRow) × HasDevice o (v.number c) (new_path v c path) j other × IsRowOver (λ a b. new_slot v c path a ≡ slot (new_path v c path) b) row other
  pub back : (es : List ℕ) (j : ℕ) (row : DeviceRow) → HasDevice o (v.number c) es j row → (path : List ℕ) × (own : DeviceRow) × HasDevice f c path j own × (new_path v c path ≡ es)
  pub one : (p q : List ℕ) (i j : ℕ) (a b : DeviceRow) → HasDevice f c p i a → HasDevice f c q j b → new_path v c p ≡ new_path v c q → p ≡ q

-- dropping leaves the expansion as it is
abbrev pub PruneLaw : Type 0
PruneLaw = (f o : Netlist) (v : Cuts) → ArePruned f o v → (c : ℕ) → v.kept c ≡ true → IsPrunedExpansion f o v c

abbrev pub from_or : Option CutCall → ℕ
from_or (Some r) = r.from
from_or None = 0

-- the maps that cut lists are
abbrev pub cuts_of : Netlist → Alignment → Cuts
cuts_of f w = record {
  number = w.number;
  kept = w.kept;
  held = w.held;
  target = λ c k. (row_of f c k).circuit;
  net = w.new;
  net_back = w.old;
  call = cut_number f w;
  call_back = λ c e. from_or (slice_get (cut_calls f w c) e);
}

-- slots and paths in the new numbers are those of the cut lists
pub slot_is : (f : Netlist) (w : Alignment) (path : List ℕ) (c n : ℕ) → new_slot (cuts_of f w) c path n ≡ cut_slot f w c path n
slot_is f w [] c n = refl
slot_is f w (k ∷ ks) c n = ap (below (cut_number f w c k)) (slot_is f w ks (row_of f c k).circuit n)

pub path_is : (f : Netlist) (w : Alignment) (path : List ℕ) (c : ℕ) → new_path (cuts_of f w) c path ≡ cut_path f w c path
path_is f w [] c = refl
path_is f w (k ∷ ks) c = ap (λ (es : List ℕ). cut_number f w c k ∷ es) (path_is f w ks (row_of f c k).circuit)

-- only circuits with no device in or below them aren't kept
abbrev pub AreDeadGone : Netlist → Alignment → Type 0
AreDeadGone f w = (c k : ℕ) (row : CallRow) → w.kept c ≡ true → IsCall f c k row → w.kept row.circuit ≡ false → (path : List ℕ) (j : ℕ) (r : DeviceRow) → HasDevice f row.circuit path j r → ⊥
