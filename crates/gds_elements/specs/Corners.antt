-- Outlines that go round a rectangle, by two of its corners.
use Rattle.std.specs.Prelude.{List, [], ◌∷◌, if◌then◌else◌}
use Rattle.geo_base.specs.declared.shapes.Point.{Point}
use Rattle.gds_elements.specs.declared.corners.Corners.{Corners}

-- the corner beside p where q is the opposite one
abbrev pub corner : Point → Point → Point
corner p q = record { x = q.x; y = p.y }

-- round a rectangle, back to the point where it begins
abbrev pub corner_points : Corners → List Point
corner_points c =
    if c.is_level
    then c.from ∷ corner c.from c.to ∷ c.to ∷ corner c.to c.from ∷ c.from ∷ []
    else c.from ∷ corner c.to c.from ∷ c.to ∷ corner c.from c.to ∷ c.from ∷ []
