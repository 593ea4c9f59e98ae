-- The chosen squares of the cells.
use Rattle.std.specs.Prelude.{List, [], Option, Some, None, map}
use Rattle.geo_base.specs.declared.shapes.Rect.{Rect}
use Rattle.select_phase.specs.declared.cell.CellSelection.{CellSelection}

abbrev pub chosen_of : Option CellSelection → List Rect
chosen_of None = []
chosen_of (Some v) = v.chosen

abbrev pub chosen_sets : List (Option CellSelection) → List (List Rect)
chosen_sets found = map chosen_of found
