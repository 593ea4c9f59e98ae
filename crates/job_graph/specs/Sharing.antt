-- What was found so far, and what the workers of a level are given and give back.
use Rattle.std.specs.Prelude.{◌≡◌, ◌<◌, ℕ, List, length, Option, None, Result, slice_index_or, All}
use Rattle.std.specs.Prelude.{IsSome, IfSome, IfOk}
use Rattle.std.specs.Global.{Vec}
use Rattle.job_graph.specs.Graph.{Waits}

module _ {T : Type 0} where
  -- the value that was found for a job
  abbrev pub found_at : List (Option T) → ℕ → Option T
  found_at found job = slice_index_or found job None

  -- the value of this job was found
  abbrev pub IsFound : List (Option T) → ℕ → Type 0
  IsFound found job = IsSome (found_at found job)

  -- no value that was found is lost
  abbrev pub KeepsFound : List (Option T) → List (Option T) → Type 0
  KeepsFound old new = (job : ℕ) → IsFound old job → IsFound new job

  -- the job is one of the graph, and the values of its inputs were found
  pub record IsReady (graph : List (List ℕ)) (found : List (Option T)) (job : ℕ) : Type 0 where
    pub within : job < length graph
    pub inputs : (input : ℕ) → Waits graph job input → IsFound found input

  module _ {K : Type 0} (is_defined : K → ℕ → T → Type 0) (key : K) (graph : List (List ℕ)) where
    -- there is a place for each job, and each value that was found is the defined one
    pub record AreFound (found : List (Option T)) : Type 0 where
      pub count : length found ≡ length graph
      pub each : (job : ℕ) → IfSome (found_at found job) (is_defined key job)

    -- the pair is a job and its defined value
    pub record IsRight (pair : ℕ × T) : Type 0 where
      pub within : pair.0 < length graph
      pub defined : is_defined key pair.0 pair.1

    -- what one worker did
    abbrev pub AreRight : List (ℕ × T) → Type 0
    AreRight pairs = All IsRight pairs

    -- what each worker did that found memory
    abbrev pub AreShares : {E : Type 0} → List (Result (Vec (ℕ × T)) E) → Type 0
    AreShares shares = All (λ s. IfOk s (λ v. AreRight v.items)) shares
