-- The jobs of the cells below a cell.
use Rattle.std.specs.Prelude.{◌≡◌, ◌↔◌, ◌<◌, ◌==◌, ◌||◌, ℕ, Bool, true, false, List, length, get_or}
use Rattle.flat_layout.specs.Layout.{Design, Place, IsPlaced}
use Rattle.flat_layout.specs.Nets.{IsUnder}
use Rattle.job_graph.specs.Graph.{AreAscending, Waits, has, inputs_of}
use Rattle.cell_graph.specs.Linked.{Linked, plain}
use Rattle.deep_tables.specs.Entries.{upward_cell}

-- below a cell that this one places, or that cell itself
abbrev pub IsBelow : Design → ℕ → ℕ → Type 0
IsBelow d cell e = (k : ℕ) × (p : Place) × IsPlaced d cell k p × IsUnder d p.cell e

-- a job of a cell that the job's cell stands above
abbrev pub IsLowerJob : Linked → ℕ → ℕ → Type 0
IsLowerJob d job input =
    (input < length d.order) × IsBelow (plain d) (upward_cell d job) (upward_cell d input)

-- the jobs go through the design's order, and each waits for exactly those of the cells below its
-- cell
pub record AreBelowJobs (d : Linked) (graph : List (List ℕ)) : Type 0 where
  pub jobs : length graph ≡ length d.order
  pub waits : (job input : ℕ) → job < length d.order
      → Waits graph job input ↔ IsLowerJob d job input

-- what a job waits for
pub record AreInputsAt (d : Linked) (job : ℕ) (inputs : List ℕ) : Type 0 where
  pub ascend : AreAscending 0 inputs job
  pub all : (i : ℕ) → (has i inputs ≡ true) ↔ IsLowerJob d job i

-- what the first jobs wait for
pub record AreInputsTo (d : Linked) (bound : ℕ) (graph : List (List ℕ)) : Type 0 where
  pub count : length graph ≡ bound
  pub each : (job : ℕ) → job < bound → AreInputsAt d job (inputs_of graph job)

-- a mark for each lower number, set at the jobs that a job waits for
pub record AreMarks (d : Linked) (job : ℕ) (marks : List Bool) : Type 0 where
  pub count : length marks ≡ job
  pub all : (i : ℕ) → (get_or marks i false ≡ true) ↔ IsLowerJob d job i

-- a job, or one that it waits for
abbrev pub is_at_or_in : ℕ → ℕ → List ℕ → Bool
is_at_or_in i job inputs = (i == job) || has i inputs
