-- Positions of numbers in a list.
use Rattle.std.specs.Prelude.{◌≡◌, ℕ, ◌<◌, ◌-◌, List, length, slice_index}
use Rattle.plain_netlist.specs.Lists.{AreApart}

-- the numbers are below a count, and no two are equal
pub record AreApartBelow (count : ℕ) (order : List ℕ) : Type 0 where
  pub inside : (k : ℕ) → k < length order → slice_index order k < count
  pub apart : AreApart order

-- the first n numbers of the list are found by their positions
abbrev pub ArePositions : List ℕ → ℕ → List ℕ → Type 0
ArePositions order n places = (k : ℕ) → k < n → slice_index places (slice_index order k) ≡ k

-- and by their positions from the end
abbrev pub AreReversed : List ℕ → ℕ → List ℕ → Type 0
AreReversed order n places = (k : ℕ) → k < n → slice_index places
    (slice_index order k) ≡ length order - 1 - k
