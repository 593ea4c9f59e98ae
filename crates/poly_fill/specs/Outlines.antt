-- Five points that go round a rectangle.
use Rattle.std.specs.Prelude.{◌≡◌, [], ◌∷◌}
use Rattle.geo_base.specs.declared.shapes.Point.{Point}
use Rattle.geo_base.specs.declared.shapes.Square.{Square}
use Rattle.geo_base.specs.Rects.{has, rect_between}
use Rattle.poly_fill.specs.Fills.{in_boundary}

-- where the second and the fourth side lie level, they wind round exactly the squares between the
-- first point and the third
abbrev pub UprightLaw : Type 0
UprightLaw = (a b c d e : Point) (s : Square) → b.y ≡ c.y → d.y ≡ a.y → e.y ≡ a.y
    → in_boundary (a ∷ b ∷ c ∷ d ∷ e ∷ []) s ≡ has (rect_between a c) s

-- where the first and the third do, round those between the second and the fourth
abbrev pub LevelLaw : Type 0
LevelLaw = (a b c d e : Point) (s : Square) → a.y ≡ b.y → c.y ≡ d.y → e.y ≡ a.y
    → in_boundary (a ∷ b ∷ c ∷ d ∷ e ∷ []) s ≡ has (rect_between b d) s
