-- The references to each cell in the cells that the top reaches.
use Rattle.std.specs.Prelude.{◌≡◌, ◌≢◌, ◌⊎◌, ℕ, ◌<◌, ◌≤◌, List, [], ◌∷◌, ◌++◌, Some, map, length}
use Rattle.std.specs.Prelude.{get_or, slice_get}
use Rattle.std.specs.Global.{Vec}
use Rattle.flat_layout.specs.Layout.{IsReached}
use Rattle.cell_graph.specs.declared.cells.Place.{Place}
use Rattle.cell_graph.specs.Linked.{Linked, plain, cell_at, places_at}
use Rattle.deep_tables.specs.Entries.{downward_cell}
use Rattle.zone_phase.specs.declared.uses.Use.{Use}
use Rattle.zone_phase.specs.declared.uses.UsedCell.{UsedCell}

abbrev pub lists_of : List (Vec Use) → List (List Use)
lists_of lists = map (λ v. v.items) lists

-- the references to a cell: none past the last cell
abbrev pub uses_of : List (List Use) → ℕ → List Use
uses_of lists cell = get_or lists cell []

-- a reference of a reached cell to the cell
pub record IsUse (d : Linked) (cell : ℕ) (u : Use) : Type 0 where
  pub job_in : u.job < length d.order
  pub place : Place
  pub there : slice_get (places_at (cell_at d (downward_cell d u.job))) u.index ≡ Some place
  pub here : place.cell ≡ cell

-- the list has the reference of this number in this job's cell
pub record HasUse (uses : List Use) (j i : ℕ) : Type 0 where
  pub at : ℕ
  pub found : Use
  pub there : slice_get uses at ≡ Some found
  pub job : found.job ≡ j
  pub index : found.index ≡ i

-- jobs don't descend along the list
abbrev pub AreRising : List Use → Type 0
AreRising uses = (j k : ℕ) (u v : Use) → j < k → slice_get uses j ≡ Some u
    → slice_get uses k ≡ Some v
    → u.job ≤ v.job

-- for each cell of the design, the references of reached cells to it
pub record AreUses (d : Linked) (lists : List (List Use)) : Type 0 where
  pub count : length lists ≡ length d.cells
  pub each : (cell k : ℕ) (u : Use) → slice_get (uses_of lists cell) k ≡ Some u → IsUse d cell u
  pub all : (j i : ℕ) (p : Place) → j < length d.order
      → slice_get (places_at (cell_at d (downward_cell d j))) i ≡ Some p
      → HasUse (uses_of lists p.cell) j i
  pub rising : (cell : ℕ) → AreRising (uses_of lists cell)

-- in an earlier job, or earlier in the same
abbrev pub IsBefore : ℕ → ℕ → ℕ → ℕ → Type 0
IsBefore j i job index = (j < job) ⊎ ((j ≡ job) × (i < index))

-- the same of the references before one
pub record AreUsesTo (d : Linked) (lists : List (List Use)) (job index : ℕ) : Type 0 where
  pub count : length lists ≡ length d.cells
  pub each : (cell k : ℕ) (u : Use) → slice_get (uses_of lists cell) k ≡ Some u
      → IsUse d cell u × IsBefore u.job u.index job index
  pub all : (j i : ℕ) (p : Place) → IsBefore j i job index
      → slice_get (places_at (cell_at d (downward_cell d j))) i ≡ Some p
      → HasUse (uses_of lists p.cell) j i
  pub rising : (cell : ℕ) → AreRising (uses_of lists cell)

-- a reference was put behind the others to its cell
pub record IsPut (old new : List (List Use)) (cell : ℕ) (u : Use) : Type 0 where
  pub count : length new ≡ length old
  pub here : uses_of new cell ≡ uses_of old cell ++ u ∷ []
  pub others : (c : ℕ) → c ≢ cell → uses_of new c ≡ uses_of old c

-- the references to one cell, from all reached cells
pub record AreUsesOf (d : Linked) (cell : ℕ) (uses : List Use) : Type 0 where
  pub each : (k : ℕ) (u : Use) → slice_get uses k ≡ Some u → IsUse d cell u
  pub all : (parent i : ℕ) (p : Place) → IsReached (plain d) parent
      → slice_get (places_at (cell_at d parent)) i ≡ Some p → p.cell ≡ cell
      → (j : ℕ) × (downward_cell d j ≡ parent) × HasUse uses j i

-- these are the references to the cell, which is there, and the margin is no more than rules reach
pub record IsUsed (c : UsedCell) : Type 0 where
  pub cell : c.cell < length c.design.now.cells
  pub uses : AreUsesOf c.design.now c.cell c.uses.now
  pub margin : c.margin ≤ 20001
