-- Half-open ranges of whole numbers.
use Rattle.std.specs.Prelude.{ℤ, ◌<ℤ◌, Bool, List, [], ◌∷◌}
use Rattle.std.specs.List.{list_any}
use Rattle.geo_base.specs.Rects.{is_between}
use Rattle.rect_sets.specs.declared.row.Span.{Span}

-- whether a range has the number
abbrev pub is_inside : ℤ → Span → Bool
is_inside x s = is_between s.x1 x s.x2

-- whether some range has the number
abbrev pub covers : List Span → ℤ → Bool
covers spans x = list_any (is_inside x) spans

-- each begins past the end of the one before, and none is empty
abbrev pub AreApart : ℤ → List Span → Type 0
AreApart from [] = Unit {0}
AreApart from (s ∷ spans) = (from <ℤ s.x1) × (s.x1 <ℤ s.x2) × AreApart s.x2 spans
