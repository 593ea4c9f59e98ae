-- A value for each job of a graph.
use Rattle.std.specs.Prelude.{◌≡◌, ◌<◌, ℕ, List, length, slice_get, IsSomeAnd}

-- there is a value for each job and no other, and each is the defined one
pub record AreDefined {K T : Type 0} (is_defined : K → ℕ → T → Type 0) (key : K)
    (graph : List (List ℕ)) (values : List T) : Type 0 where
  pub count : length values ≡ length graph
  pub each : (job : ℕ) → job < length graph → IsSomeAnd (slice_get values job) (is_defined key job)
