-- A search of a cell for what comes into a window of it.
use Rattle.std.specs.Prelude.{ℕ, ◌<◌, ◌≤◌, ◌^◌, List, length}
use Rattle.cell_graph.specs.declared.cells.Place.{Place}
use Rattle.cell_graph.specs.Linked.{IsRectWithin, cell_at, places_at}
use Rattle.cell_context.specs.declared.arrays.Visit.{Visit}
use Rattle.cell_context.specs.declared.flats.Search.{Search}
use Rattle.cell_context.specs.Over.{AreVisitedAt, AreVisitedOf, IsVisit}

-- its cell is there, its window near, and hulls grow by no more than rules reach
pub record IsSearch (s : Search) : Type 0 where
  pub cell : s.cell < length s.design.now.cells
  pub window : IsRectWithin (2 ^ 39) s.window.now
  pub by : s.by ≤ 20001

-- the references of its cell
abbrev pub references_of : Search → List Place
references_of s = places_at (cell_at s.design.now s.cell)

-- what it looks for
abbrev pub IsHit : Search → Visit → Type 0
IsHit s = IsVisit s.by s.design.now s.cell s.skip s.window.now

-- all that it looks for, of one reference
abbrev pub HasHitsOf : Search → ℕ → Place → List Visit → Type 0
HasHitsOf s i p visits = AreVisitedOf s.by s.design.now s.cell i p s.window.now visits

-- the same of the reference of a number, unless it is skipped
abbrev pub HasHitsAt : Search → ℕ → List Visit → Type 0
HasHitsAt s i visits = AreVisitedAt s.by s.design.now s.cell s.skip s.window.now i visits
