-- Which unit squares an element of a layout covers, square by square.
use Rattle.std.specs.Prelude.{◌&&◌, ℤ, pos, negsuc, ◌+ℤ◌, ◌-ℤ◌, int_le, int_lt, ◌||◌, Bool, List}
use Rattle.std.specs.Prelude.{[], ◌∷◌, if◌then◌else◌}
use Rattle.std.specs.Ordering.{int_eq}
use Rattle.rect_sets.specs.Rects.{covers}
use Rattle.geo_base.specs.Rects.{is_between}
use Rattle.geo_base.specs.declared.shapes.Point.{Point}
use Rattle.geo_base.specs.declared.shapes.Square.{Square}
use Rattle.geo_base.specs.declared.shapes.Rect.{Rect}

-- BOUNDARY

-- what the edge from a to b adds to the winding number round the centre of a square: where it
-- stands to the left and spans the square's row, 1 upwards and -1 downwards
abbrev pub turns : Point → Point → Square → ℤ
turns a b s =
    if int_le a.x s.x
    then (if is_between a.y s.y b.y then pos 1 else (if is_between b.y s.y a.y then negsuc 0
    else pos 0))
    else pos 0

-- the winding number of a closed line of points round the centre of a square
abbrev pub winding : List Point → Square → ℤ
winding [] s = pos 0
winding (a ∷ []) s = pos 0
winding (a ∷ b ∷ points) s = turns a b s +ℤ winding (b ∷ points) s

abbrev pub in_boundary : List Point → Square → Bool
in_boundary points s = int_lt (winding points s) (pos 0) || int_lt (pos 0) (winding points s)

-- PATH

-- the range of one coordinate from a to b, lengthened at its beginning and at its end
abbrev pub low_of : ℤ → ℤ → ℤ → ℤ → ℤ
low_of a b begin end = if int_le a b then a -ℤ begin else b -ℤ end

abbrev pub high_of : ℤ → ℤ → ℤ → ℤ → ℤ
high_of a b begin end = if int_le a b then b +ℤ end else a +ℤ begin

-- the rectangle of the segment from a to b, lengthened at a and at b along its direction and
-- widened by half to both sides
abbrev pub segment : ℤ → ℤ → ℤ → Point → Point → Rect
segment half begin end a b =
    if int_eq a.y b.y
    then (record {
      x1 = low_of a.x b.x begin end;
      y1 = a.y -ℤ half;
      x2 = high_of a.x b.x begin end;
      y2 = a.y +ℤ half;
    })
    else (record {
      x1 = a.x -ℤ half;
      y1 = low_of a.y b.y begin end;
      x2 = a.x +ℤ half;
      y2 = high_of a.y b.y begin end;
    })

abbrev pub same_point : Point → Point → Bool
same_point a b = int_eq a.x b.x && int_eq a.y b.y

-- the points without those that equal the one before them; p is the one before
abbrev pub distinct_behind : Point → List Point → List Point
distinct_behind p [] = []
distinct_behind p (q ∷ points) =
    if same_point p q then distinct_behind p points else q ∷ distinct_behind q points

abbrev pub distinct : List Point → List Point
distinct [] = []
distinct (p ∷ points) = p ∷ distinct_behind p points

-- the rectangles of the segments: begin at the first point, half at each inner joint, end at the
-- last point
abbrev pub segments : ℤ → ℤ → ℤ → List Point → List Rect
segments half begin end [] = []
segments half begin end (a ∷ []) = []
segments half begin end (a ∷ b ∷ []) = segment half begin end a b ∷ []
segments half begin end (a ∷ b ∷ c ∷ points) =
    segment half begin half a b ∷ segments half half end (b ∷ c ∷ points)

-- a rectangle without width or height has no square
abbrev pub in_path : ℤ → ℤ → ℤ → List Point → Square → Bool
in_path half begin end points s = covers (segments half begin end (distinct points)) s
