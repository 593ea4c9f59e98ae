-- The shapes of accepted bytes can be filled.
use Rattle.std.specs.Prelude.{ℤ, List}
use Rattle.std.specs.List.{All}
use Rattle.geo_base.specs.declared.shapes.Point.{Point}
use Rattle.geo_base.specs.Near.{IsLong, IsLongPoint, IsLongRect}
use Rattle.geo_base.specs.Outlines.{IsClosed}
use Rattle.gds_elements.specs.Meaning.{Form, Boundary, Path, Box, Cell, Library}
use Rattle.gds_elements.specs.Faults.{IsAccepted}

-- an outline ends where it begins, at numbers of four bytes
pub record IsOutline (points : List Point) : Type 0 where
  pub closed : IsClosed points
  pub points_long : All IsLongPoint points

-- a path's numbers are numbers of four bytes
pub record IsCourse (points : List Point) (half begin end : ℤ) : Type 0 where
  pub points_long : All IsLongPoint points
  pub half_long : IsLong half
  pub begin_long : IsLong begin
  pub end_long : IsLong end

-- what a fill of the form asks
abbrev pub IsFillable : Form → Type 0
IsFillable (Boundary points) = IsOutline points
IsFillable (Path points half begin end) = IsCourse points half begin end
IsFillable (Box rect) = IsLongRect rect

-- each shape of the cell can be filled
abbrev pub AreFillable : Cell → Type 0
AreFillable cell = All (λ shape. IsFillable shape.form) cell.shapes

-- each shape of an accepted library can be filled
abbrev pub FillableLaw : Type 0
FillableLaw = (library : Library) → IsAccepted library → All AreFillable library.cells
