-- Rectangles cut in two by an upright or a level line.
use Rattle.std.specs.Prelude.{ℤ, int_lt, Bool, ◌||◌, List, [], ◌∷◌, if◌then◌else◌}
use Rattle.std.specs.Ordering.{int_eq}
use Rattle.geo_base.specs.declared.shapes.Rect.{Rect}
use Rattle.geo_base.specs.declared.shapes.Square.{Square}
use Rattle.rect_sets.specs.declared.cuts.Axis.{Axis}
use Rattle.rect_sets.specs.declared.cuts.Axis.TheVariants.{X, Y}
use Rattle.rect_sets.specs.declared.cuts.Cut.{Cut}

-- where a square lies along the axis
abbrev pub place : Axis → Square → ℤ
place X s = s.x
place Y s = s.y

-- the two ends of a rectangle along the axis
abbrev pub low_end : Axis → Rect → ℤ
low_end X r = r.x1
low_end Y r = r.y1

abbrev pub high_end : Axis → Rect → ℤ
high_end X r = r.x2
high_end Y r = r.y2

-- some of the rectangle is on the lower side of the line
abbrev pub begins_before : Cut → Rect → Bool
begins_before c r = int_lt (low_end c.axis r) c.at

-- some of it is on the upper side
abbrev pub ends_after : Cut → Rect → Bool
ends_after c r = int_lt c.at (high_end c.axis r)

-- the part on the lower side of the line
abbrev pub low_at : Axis → ℤ → Rect → Rect
low_at X at r = record { x1 = r.x1; y1 = r.y1; x2 = if int_lt at r.x2 then at else r.x2; y2 = r.y2 }
low_at Y at r = record { x1 = r.x1; y1 = r.y1; x2 = r.x2; y2 = if int_lt at r.y2 then at else r.y2 }

-- the part on the upper side
abbrev pub high_at : Axis → ℤ → Rect → Rect
high_at X at r = record {
  x1 = if int_lt r.x1 at then at else r.x1;
  y1 = r.y1;
  x2 = r.x2;
  y2 = r.y2;
}
high_at Y at r = record {
  x1 = r.x1;
  y1 = if int_lt r.y1 at then at else r.y1;
  x2 = r.x2;
  y2 = r.y2;
}

-- the parts on either side of a cut
abbrev pub low_part : Cut → Rect → Rect
low_part c r = low_at c.axis c.at r

abbrev pub high_part : Cut → Rect → Rect
high_part c r = high_at c.axis c.at r

-- the lower parts of those that have one
abbrev pub lows : Cut → List Rect → List Rect
lows c [] = []
lows c (r ∷ rects) = if begins_before c r then low_part c r ∷ lows c rects else lows c rects

-- the upper parts of those that have one
abbrev pub highs : Cut → List Rect → List Rect
highs c [] = []
highs c (r ∷ rects) = if ends_after c r then high_part c r ∷ highs c rects else highs c rects

-- a side of the rectangle lies on the line
abbrev pub touches : Cut → Rect → Bool
touches c r = int_eq (low_end c.axis r) c.at || int_eq (high_end c.axis r) c.at

-- those that don't touch the line
abbrev pub kept : Cut → List Rect → List Rect
kept c [] = []
kept c (r ∷ rects) = if touches c r then kept c rects else r ∷ kept c rects

-- those that touch it
abbrev pub cut_off : Cut → List Rect → List Rect
cut_off c [] = []
cut_off c (r ∷ rects) = if touches c r then r ∷ cut_off c rects else cut_off c rects
