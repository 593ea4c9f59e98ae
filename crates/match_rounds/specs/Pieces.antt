-- Nodes with counts, in the order of their classes and counts, by which classes are parted.
use Rattle.std.specs.Prelude.{◌≡◌, ◌≢◌, ◌⊎◌, ◌↔◌, ◌<◌, ◌≤◌, ◌+◌, ℕ, List, length, slice_index}
use Rattle.std.specs.Prelude.{slice_index_or}
use Rattle.match_rounds.specs.declared.groups.Part.{Part}

abbrev pub entry : List Part → ℕ → Part
entry parts e = slice_index_or parts e record { class = 0; count = 0; node = 0 }

abbrev pub IsSameKey : Part → Part → Type 0
IsSameKey p q = (p.class ≡ q.class) × (p.count ≡ q.count)

-- p stands before q, or their keys are the same
abbrev pub IsNoLaterPart : Part → Part → Type 0
IsNoLaterPart p q = (p.class < q.class) ⊎ ((p.class ≡ q.class) × (p.count ≤ q.count))

-- ordered by class and count
abbrev pub AreOrdered : List Part → Type 0
AreOrdered parts = (e f : ℕ) → f < length parts → e ≤ f
    → IsNoLaterPart (entry parts e) (entry parts f)

-- distinct nodes of these classes
pub record AreLoose (classes : List ℕ) (parts : List Part) (n : ℕ) : Type 0 where
  pub below : (e : ℕ) → e < length parts → (entry parts e).node < n
  pub class : (e : ℕ) → e < length parts → (entry parts e).class
      ≡ slice_index classes (entry parts e).node
  pub once : (e f : ℕ) → e < length parts → f < e → (entry parts f).node ≢ (entry parts e).node

-- distinct nodes of these classes, ordered by class and count
pub record ArePieces (classes : List ℕ) (parts : List Part) (n : ℕ) : Type 0 where
  pub below : (e : ℕ) → e < length parts → (entry parts e).node < n
  pub class : (e : ℕ) → e < length parts → (entry parts e).class
      ≡ slice_index classes (entry parts e).node
  pub once : (e f : ℕ) → e < length parts → f < e → (entry parts f).node ≢ (entry parts e).node
  pub sorted : AreOrdered parts

-- the entries from here up to the end are all that have this one's key
pub record IsGroup (parts : List Part) (from end : ℕ) : Type 0 where
  pub some : from < end
  pub fits : end ≤ length parts
  pub same : (e : ℕ) → from ≤ e → e < end → IsSameKey (entry parts from) (entry parts e)
  pub next : end < length parts → IsSameKey (entry parts from) (entry parts end) → ⊥

pub record AreNodesOf (parts : List Part) (from to : ℕ) (nodes : List ℕ) : Type 0 where
  pub long : length nodes + from ≡ to
  pub each : (k : ℕ) → k < length nodes → slice_index nodes k ≡ (entry parts (from + k)).node

-- one of the first i entries is of this node, with this count
abbrev pub HasCount : List Part → ℕ → ℕ → ℕ → Type 0
HasCount parts i a v = (e : ℕ) × (e < i) × ((entry parts e).node ≡ a) × ((entry parts e).count ≡ v)

-- two nodes have the same count there, or both none
abbrev pub HaveOneCount : List Part → ℕ → ℕ → ℕ → Type 0
HaveOneCount parts i a b = (v : ℕ) → HasCount parts i a v ↔ HasCount parts i b v

-- two nodes are of one class now exactly where they were, and have the same count among the first i
-- entries
abbrev pub ArePartedBy : List ℕ → List ℕ → List Part → ℕ → ℕ → Type 0
ArePartedBy before after parts i n = (a b : ℕ) → a < n → b < n
    → (slice_index after a ≡ slice_index after b)
    ↔ ((slice_index before a ≡ slice_index before b) × HaveOneCount parts i a b)

-- the first i entries are done, and none behind them has the key of one of them
pub record ArePartedSoFar (before after : List ℕ) (parts : List Part) (i n : ℕ) : Type 0 where
  pub fits : i ≤ length parts
  pub parted : ArePartedBy before after parts i n
  pub apart : (f e : ℕ) → f < i → i ≤ e → e < length parts
      → IsSameKey (entry parts f) (entry parts e) → ⊥
