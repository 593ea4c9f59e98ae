-- The first number below n that has a property, or none.
use Rattle.std.specs.Prelude.{ℕ, ◌<◌, Option, Some, None}
use Rattle.cell_graph.specs.Chains.{IsFirst}

abbrev pub HasNone : (ℕ → Type 0) → ℕ → Type 0
HasNone P n = (i : ℕ) → i < n → P i → ⊥

abbrev pub IsFirstOr : (ℕ → Type 0) → ℕ → Option ℕ → Type 0
IsFirstOr P n None = HasNone P n
IsFirstOr P n (Some i) = (i < n) × IsFirst P i
