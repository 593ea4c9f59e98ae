-- Sets grown by how far names reach.
use Rattle.std.specs.Prelude.{ℕ, List, map}
use Rattle.geo_base.specs.declared.shapes.Rect.{Rect}
use Rattle.geo_base.specs.Rects.{grown}

-- the rectangles, each grown by n squares on each side
abbrev pub around : ℕ → List Rect → List Rect
around n rects = map (grown n) rects
