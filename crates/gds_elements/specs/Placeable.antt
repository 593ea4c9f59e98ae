-- The references of accepted bytes place something.
use Rattle.std.specs.Prelude.{◌<◌}
use Rattle.std.specs.List.{All}
use Rattle.gds_elements.specs.Meaning.{Ref, Cell, Library}
use Rattle.gds_elements.specs.Faults.{IsAccepted}

-- a column and a row at least
pub record HasPlacements (r : Ref) : Type 0 where
  pub columns : 0 < r.columns
  pub rows : 0 < r.rows

-- each reference of the cell places something
abbrev pub ArePlaceable : Cell → Type 0
ArePlaceable cell = All HasPlacements cell.refs

-- each reference of an accepted library places something
abbrev pub PlaceableLaw : Type 0
PlaceableLaw = (library : Library) → IsAccepted library → All ArePlaceable library.cells
