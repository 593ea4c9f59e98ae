-- The references of cells that are resolved already.
use Rattle.std.specs.Prelude.{◌≡◌, ℕ, ◌<◌, ◌^◌, List, Some, length, map, slice_get}
use Rattle.cell_graph.specs.declared.cells.Place.{Place}
use Rattle.std.specs.Global.{Vec}

-- a cell's references, resolved
abbrev pub Part : Type 0
Part = Vec Place

-- some place of the list has this cell
abbrev pub IsAmong : List Place → ℕ → Type 0
IsAmong places j = (k : ℕ) × (p : Place) × (slice_get places k ≡ Some p) × (p.cell ≡ j)

-- a cell places the other
pub record Places (parts : List Part) (i j : ℕ) : Type 0 where
  pub part : Part
  pub there : slice_get parts i ≡ Some part
  pub among : IsAmong part.items j

-- all references are resolved
abbrev pub AreInside : List Place → ℕ → Type 0
AreInside places n = (k : ℕ) (p : Place) → slice_get places k ≡ Some p → p.cell < n

pub record AreResolved (parts : List Part) : Type 0 where
  pub inside : (i : ℕ) (c : Part) → slice_get parts i ≡ Some c → AreInside c.items (length parts)
  pub few : length parts < 2 ^ 32

-- for each cell, those that it places
abbrev pub called : List Part → List (List ℕ)
called parts = map (λ part. map (λ place. place.cell) part.items) parts
