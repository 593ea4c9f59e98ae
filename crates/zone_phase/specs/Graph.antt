-- The jobs of the cells that place a cell.
use Rattle.std.specs.Prelude.{◌≡◌, ◌↔◌, ℕ, ◌<◌, true, List, Some, length, slice_get}
use Rattle.job_graph.specs.Graph.{has, AreAscending, Waits, inputs_of}
use Rattle.cell_graph.specs.declared.cells.Place.{Place}
use Rattle.cell_graph.specs.Linked.{Linked, cell_at, places_at}
use Rattle.deep_tables.specs.Entries.{downward_cell}
use Rattle.zone_phase.specs.declared.uses.Use.{Use}

-- the first cell has a reference to the second
abbrev pub Places : Linked → ℕ → ℕ → Type 0
Places d parent cell = (i : ℕ) × (p : Place)
    × (slice_get (places_at (cell_at d parent)) i ≡ Some p) × (p.cell ≡ cell)

-- the jobs go through the design's order from its end, and each waits for exactly those of the
-- cells
-- that place its cell
pub record AreParentJobs (d : Linked) (graph : List (List ℕ)) : Type 0 where
  pub jobs : length graph ≡ length d.order
  pub waits : (job input : ℕ) → job < length d.order
      → Waits graph job input ↔ ((input < length d.order)
      × Places d (downward_cell d input) (downward_cell d job))

-- one of the first references has the job
abbrev pub HasJob : List Use → ℕ → ℕ → Type 0
HasJob uses bound job = (k : ℕ) × (u : Use) × (k < bound) × (slice_get uses k ≡ Some u)
    × (u.job ≡ job)

-- the jobs of the first references, each once
pub record AreJobsOf (uses : List Use) (bound : ℕ) (jobs : List ℕ) : Type 0 where
  pub ascend : (high : ℕ) → ((job : ℕ) → HasJob uses bound job → job < high)
      → AreAscending 0 jobs high
  pub all : (job : ℕ) → (has job jobs ≡ true) ↔ HasJob uses bound job

-- the inputs of the first jobs
pub record AreInputsTo (d : Linked) (lists : ℕ
    → List Use) (bound : ℕ) (graph : List (List ℕ)) : Type 0 where
  pub count : length graph ≡ bound
  pub each : (job : ℕ) → job < bound
      → AreJobsOf (lists (downward_cell d job)) (length (lists (downward_cell d job))) (inputs_of
      graph job)
