-- Tables with an entry, or none, for each cell, from the values of a phase's jobs.
use Rattle.std.specs.Prelude.{◌≡◌, ℕ, ◌-◌, ◌<◌, List, Option, None, IsSomeAnd, length, get_or}
use Rattle.std.specs.Prelude.{slice_get, slice_index}
use Rattle.flat_layout.specs.Layout.{Design, IsReached}
use Rattle.cell_graph.specs.Linked.{Linked}

-- a cell's entry; none past the last cell
abbrev pub entry : {T : Type 0} → List (Option T) → ℕ → Option T
entry table cell = get_or table cell None

-- the cell of a job, where each cell comes after those that it places, and where it comes after
-- those that place it
abbrev pub upward_cell : Linked → ℕ → ℕ
upward_cell d job = slice_index d.order job

abbrev pub downward_cell : Linked → ℕ → ℕ
downward_cell d job = slice_index d.order (length d.order - 1 - job)

-- each reached cell's entry is the value of its job
pub record IsByJobs {T : Type 0} (cell_of : ℕ → ℕ) (d : Linked) (values : List T)
    (table : List (Option T)) : Type 0 where
  pub count : length table ≡ length d.cells
  pub each : (job : ℕ) → job < length d.order → entry table (cell_of job) ≡ slice_get values job

abbrev pub IsUpward : {T : Type 0} → Linked → List T → List (Option T) → Type 0
IsUpward d values table = IsByJobs (upward_cell d) d values table

abbrev pub IsDownward : {T : Type 0} → Linked → List T → List (Option T) → Type 0
IsDownward d values table = IsByJobs (downward_cell d) d values table

-- each reached cell has an entry, and it is a right one
abbrev pub AreEntries : {T : Type 0} → Design → (ℕ → T → Type 0) → List (Option T) → Type 0
AreEntries d is table = (cell : ℕ) → IsReached d cell → IsSomeAnd (entry table cell) (is cell)
