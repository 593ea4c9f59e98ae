-- Marks of placed cells, and cells that none places.
use Rattle.std.specs.Prelude.{◌≡◌, ◌⊎◌, ◌↔◌, ℕ, ◌<◌, ◌≤◌, Bool, List, Option, Some, None, length}
use Rattle.std.specs.Borrow.{Bor}
use Rattle.cell_graph.specs.Parts.{Part, Places}
use Rattle.cell_graph.specs.Marking.{IsMarked}

-- those of P are marked too
pub record MarksMore (P : ℕ → Type 0) (old new : List Bool) : Type 0 where
  pub count : length new ≡ length old
  pub exact : (j : ℕ) → IsMarked new j ↔ (IsMarked old j ⊎ P j)

-- one of the first n cells places it
abbrev pub IsPlacedByFirst : List Part → ℕ → ℕ → Type 0
IsPlacedByFirst parts n j = (i : ℕ) × (i < n) × Places parts i j

-- marked is what the first n cells place
pub record ArePlacedTo (parts : List Part) (n : ℕ) (marks : List Bool) : Type 0 where
  pub count : length marks ≡ length parts
  pub exact : (j : ℕ) → IsMarked marks j ↔ IsPlacedByFirst parts n j

-- marked is what some cell places
pub record ArePlaced (parts : List Part) (marks : List Bool) : Type 0 where
  pub count : length marks ≡ length parts
  pub exact : (j : ℕ) → IsMarked marks j ↔ ((i : ℕ) × Places parts i j)

-- all numbers from the one up to the other are marked
abbrev pub AreMarkedFrom : List Bool → ℕ → ℕ → Type 0
AreMarkedFrom marks from to = (k : ℕ) → from ≤ k → k < to → IsMarked marks k

pub record IsFree (marks : List Bool) (from i : ℕ) : Type 0 where
  pub begin : from ≤ i
  pub there : i < length marks
  pub free : IsMarked marks i → ⊥
  pub before : AreMarkedFrom marks from i

-- the first from a number on that isn't marked, or none
abbrev pub IsNextFree : List Bool → ℕ → Option ℕ → Type 0
IsNextFree marks from None = AreMarkedFrom marks from (length marks)
IsNextFree marks from (Some i) = IsFree marks from i

-- what the reference in an option points to
abbrev pub now_of : Option (Bor (List ℕ)) → Option (List ℕ)
now_of None = None
now_of (Some name) = Some name.now
