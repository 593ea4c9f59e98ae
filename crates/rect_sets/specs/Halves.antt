-- A set in two parts that have no run in common.
use Rattle.std.specs.Prelude.{◌≡◌, int_lt, int_le, Bool, true, ◌||◌, ◌&&◌, List}
use Rattle.rect_sets.specs.Rects.{covers, IsBlock, IsListed}
use Rattle.rect_sets.specs.Divided.{place}
use Rattle.geo_base.specs.declared.shapes.Rect.{Rect}
use Rattle.geo_base.specs.declared.shapes.Square.{Square}
use Rattle.rect_sets.specs.declared.cuts.Cut.{Cut}

-- some of a set's blocks, and rectangles that cover what these leave
pub record AreParted (set : Square → Bool) (done rest : List Rect) : Type 0 where
  pub blocks : (u : Rect) → IsListed u done → IsBlock set u
  pub same : (s : Square) → set s ≡ (covers done s || covers rest s)
  pub apart : (s : Square) → covers done s ≡ true → covers rest s ≡ true → ⊥

-- the set on the lower side of a cut, and on the upper
abbrev pub low_half : (Square → Bool) → Cut → Square → Bool
low_half set c s = set s && int_lt (place c.axis s) c.at

abbrev pub high_half : (Square → Bool) → Cut → Square → Bool
high_half set c s = set s && int_le c.at (place c.axis s)
