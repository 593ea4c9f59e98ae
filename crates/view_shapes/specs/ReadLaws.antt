-- What a circuit shows of a net of its cell itself: what comes from below by a pin of a call is
-- shown in the called circuit.
use Rattle.std.specs.Prelude.{◌≡◌, ◌⊎◌, ◌↔◌, ℕ, zero, suc, Bool, true, false}
use Rattle.flat_layout.specs.Layout.{Place, Design, IsPlaced}
use Rattle.flat_layout.specs.Nets.{Item, Own, Child, Global, Tables, IsOf, ItemHolds, NetHolds}
use Rattle.flat_layout.specs.Regions.{Node, moved}

-- for each net of a cell, whether the calls of its circuit have a pin on it
abbrev pub Called : Type 0
Called = ℕ → ℕ → Bool

-- an item is shown in the cell but where a call has a pin on it
abbrev pub IsShown : Design → Called → ℕ → Item → Type 0
IsShown d called cell (Own c r) = Unit {0}
IsShown d called cell (Child k b) = (p : Place) → IsPlaced d cell k p → called p.cell b ≡ false
IsShown d called cell (Global g) = Unit {0}

-- a net shows what its shown items hold, all cells below seen
pub record NetShows (d : Design) (t : Tables) (called : Called) (cell net : ℕ)
    (n : Node) : Type 0 where
  pub index : ℕ
  pub item : Item
  pub is_of : IsOf (t.nets cell) net index item
  pub shown : IsShown d called cell item
  pub holds : ItemHolds d t cell item n

-- what is read of a net, so many calls deep at most: what it shows, and what is read of the called
-- circuits' nets at the pins, moved
abbrev pub ReadsAt : Design → Tables → Called → ℕ → ℕ → ℕ → Node → Type 0
ReadsAt d t called zero cell net n = NetShows d t called cell net n
ReadsAt d t called (suc h) cell net n = NetShows d t called cell net n ⊎ ((i k b : ℕ) × (p : Place)
    × IsOf (t.nets cell) net i (Child k b) × IsPlaced d cell k p × (called p.cell b ≡ true)
    × (m : Node) × ReadsAt d t called h p.cell b m × (moved p.motion m ≡ n))

pub record NetReads (d : Design) (t : Tables) (called : Called) (cell net : ℕ)
    (n : Node) : Type 0 where
  pub depth : ℕ
  pub reads : ReadsAt d t called depth cell net n

-- over all calls, what is read of a net is what it holds
abbrev pub ReadLaw : Type 0
ReadLaw = (d : Design) (t : Tables) (called : Called) (cell net : ℕ) (n : Node)
    → NetReads d t called cell net n ↔ NetHolds d t cell net n
