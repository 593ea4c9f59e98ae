-- Marks of the numbers that stand in a list.
use Rattle.std.specs.Prelude.{◌≡◌, ◌↔◌, ◌<◌, ◌==◌, ℕ, Bool, cond, true, false, List, length}
use Rattle.std.specs.Prelude.{slice_index, slice_index_or, take, count_by}
use Rattle.plain_netlist.specs.Lists.{IsListed}

-- no mark below i is set
abbrev pub AreUnset : ℕ → List Bool → Type 0
AreUnset i marks = (j : ℕ) → j < i → slice_index_or marks j false ≡ false

-- each entry is below n, and each number below n stands once
pub record StandsOnce (xs : List ℕ) (n : ℕ) : Type 0 where
  pub below : (k : ℕ) → k < length xs → slice_index xs k < n
  pub once : (j : ℕ) → j < n → count_by (λ x. j == x) xs ≡ 1

-- the marks tell which of the first i numbers there were, each once
pub record IsMarked (numbers : List ℕ) (i n : ℕ) (marks : List Bool) : Type 0 where
  pub long : length marks ≡ n
  pub mark : (j : ℕ) → j < n → count_by (λ x. j == x) (take i numbers)
      ≡ cond {A = ℕ} (slice_index_or marks j false) 1 0
  pub below : (k : ℕ) → k < i → slice_index numbers k < n

-- the marks that are set are those of the listed numbers
abbrev pub AreMarked : List ℕ → List Bool → Type 0
AreMarked numbers marks =
    (j : ℕ) → j < length marks → (slice_index_or marks j false ≡ true) ↔ IsListed j numbers

-- the same of the first i numbers
pub record AreMarkedOf (numbers : List ℕ) (i : ℕ) (marks : List Bool) : Type 0 where
  pub marked : AreMarked (take i numbers) marks
