-- The pairs that are compared, as two lists.
use Rattle.std.specs.Prelude.{◌≡◌, ◌<◌, ◌==◌, ◌&&◌, ◌||◌, ℕ, Bool, false, List, length, Option}
use Rattle.std.specs.Prelude.{Some, None, slice_get, slice_index_or, if◌then◌else◌}

-- both are called from the tops, and are the tops or have devices; the marks say so of each side
abbrev pub are_compared : ℕ → List Bool → List Bool → List Bool → List Bool → ℕ → ℕ → Bool
are_compared top left_reached left_holds right_reached right_holds a b =
    slice_index_or left_reached a false && (slice_index_or right_reached b false
    && (a == top || (slice_index_or left_holds a false && slice_index_or right_holds b false)))

-- the partner of circuit a, where they are compared
abbrev pub compared_partner : (ℕ → ℕ → Bool) → ℕ → Option ℕ → Option ℕ
compared_partner test a None = None
compared_partner test a (Some b) = if test a b then Some b else None

-- the lists have the pairs of the first n circuits that have such a partner, in their order
pub record ArePairsBelow (of : List (Option ℕ)) (test : ℕ → ℕ → Bool) (n : ℕ)
    (lefts rights : List ℕ) : Type 0 where
  pub long : length lefts ≡ length rights
  pub each : (k a b : ℕ) → slice_get lefts k ≡ Some a → slice_get rights k ≡ Some b
      → (a < n) × (compared_partner test a (slice_index_or of a None) ≡ Some b)
  pub all : (a b : ℕ) → a < n → compared_partner test a (slice_index_or of a None) ≡ Some b
      → (k : ℕ) × (slice_get lefts k ≡ Some a) × (slice_get rights k ≡ Some b)
  pub rising : (j k a b : ℕ) → slice_get lefts j ≡ Some a → slice_get lefts k ≡ Some b → j < k
      → a < b
