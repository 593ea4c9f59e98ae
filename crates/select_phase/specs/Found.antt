-- What a cell finds of a selection.
use Rattle.std.specs.Prelude.{◌≡◌, ◌↔◌, ℕ, List, [], Option, Some, None, get_or}
use Rattle.flat_layout.specs.Layout.{Design, Place, IsPlaced}
use Rattle.geo_base.specs.declared.shapes.Rect.{Rect}
use Rattle.geo_base.specs.declared.shapes.Square.{Square}
use Rattle.deep_tables.specs.Entries.{AreEntries}
use Rattle.gate_shapes.specs.Sets.{in_set}
use Rattle.select_laws.specs.Layered.{IsOwnSelected}
use Rattle.select_laws.specs.Rest.{IsRest, AreTold}
use Rattle.select_laws.specs.Selects.{Select, sight}
use Rattle.select_phase.specs.declared.cell.CellSelection.{CellSelection}

-- the squares of the cell's own regions that are chosen, and those that go up; and of each kept
-- square it is known whether its region is whole
pub record IsCellSelection (d : Design) (x : Select) (cell : ℕ) (v : CellSelection) : Type 0 where
  pub chosen : (q : Square) → in_set v.chosen q ↔ IsOwnSelected d x cell q
  pub rest : (q : Square) → in_set v.rest q ↔ IsRest d x.joint (sight x) cell q
  pub told : AreTold d x.joint (sight x) cell

-- what is found of each placed cell, by its number
abbrev pub AreFoundBelow : Design → Select → ℕ → List (Option CellSelection) → Type 0
AreFoundBelow d x cell found = (k : ℕ) (p : Place) → IsPlaced d cell k p → (v : CellSelection)
    × (get_or found p.cell None ≡ Some v) × IsCellSelection d x p.cell v

-- and each reached cell has what it finds
abbrev pub AreFound : Design → Select → List (Option CellSelection) → Type 0
AreFound d x found = AreEntries d (IsCellSelection d x) found

-- what goes up from a cell, by what was found of it
abbrev pub rest_of : Option CellSelection → List Rect
rest_of None = []
rest_of (Some v) = v.rest

abbrev pub rest_in : List (Option CellSelection) → ℕ → List Rect
rest_in found cell = rest_of (get_or found cell None)
