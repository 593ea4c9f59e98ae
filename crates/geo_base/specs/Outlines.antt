-- Lines of points that end where they begin.
use Rattle.std.specs.Prelude.{◌≡◌, List, [], ◌∷◌}
use Rattle.geo_base.specs.declared.shapes.Point.{Point}

-- the last point of a line that begins at p
abbrev pub last_from : Point → List Point → Point
last_from p [] = p
last_from p (q ∷ points) = last_from q points

-- the last point is the first
abbrev pub IsClosed : List Point → Type 0
IsClosed [] = Unit {0}
IsClosed (p ∷ points) = last_from p points ≡ p
