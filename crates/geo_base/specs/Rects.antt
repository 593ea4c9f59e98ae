-- Rectangles as sets of unit squares, and the rectangle that a motion takes one to.
use Rattle.std.specs.Prelude.{◌≡◌, ℕ, ℤ, pos, int_le, int_lt, ◌<ℤ◌, ◌≤ℤ◌, ◌+ℤ◌, ◌-ℤ◌, Bool, true, ◌&&◌}
use Rattle.std.specs.Prelude.{◌↔◌}
use Rattle.std.specs.Int.{int_min, int_max}
use Rattle.geo_base.specs.declared.shapes.Point.{Point}
use Rattle.geo_base.specs.declared.shapes.Square.{Square}
use Rattle.geo_base.specs.declared.shapes.Rect.{Rect}
use Rattle.geo_base.specs.declared.motion.Motion.{Motion}
use Rattle.geo_base.specs.Motions.{moved_point}

-- whether a number lies from `low` up to, but not at, `high`
abbrev pub is_between : ℤ → ℤ → ℤ → Bool
is_between low number high = int_le low number && int_lt number high

-- whether the rectangle has the unit square
abbrev pub has : Rect → Square → Bool
has r s = is_between r.x1 s.x r.x2 && is_between r.y1 s.y r.y2

-- the rectangle has at least one square: its sides stand in order
pub record IsRect (r : Rect) : Type 0 where
  pub wide : r.x1 <ℤ r.x2
  pub high : r.y1 <ℤ r.y2

-- the same as a test
abbrev pub is_rect : Rect → Bool
is_rect r = int_lt r.x1 r.x2 && int_lt r.y1 r.y2

-- ---- two rectangles

-- some unit square lies in both
abbrev pub ShareSquare : Rect → Rect → Type 0
ShareSquare a b = (s : Square) × (has a s ≡ true) × (has b s ≡ true)

-- whether two ranges, each from its low end up to, but not at, its high end, have a number in common
abbrev pub overlap : ℤ → ℤ → ℤ → ℤ → Bool
overlap low high from to = int_lt (int_max low from) (int_min high to)

-- the same as sharing a square, by the sides
abbrev pub meets : Rect → Rect → Bool
meets a b = overlap a.x1 a.x2 b.x1 b.x2 && overlap a.y1 a.y2 b.y1 b.y2

-- the first lies within the second
pub record IsInside (a b : Rect) : Type 0 where
  pub x1 : b.x1 ≤ℤ a.x1
  pub y1 : b.y1 ≤ℤ a.y1
  pub x2 : a.x2 ≤ℤ b.x2
  pub y2 : a.y2 ≤ℤ b.y2

-- the same as a test
abbrev pub is_inside : Rect → Rect → Bool
is_inside a b =
    (int_le b.x1 a.x1 && int_le a.x2 b.x2) && (int_le b.y1 a.y1 && int_le a.y2 b.y2)

-- their bounding box: the least rectangle that holds both
abbrev pub bounding_box : Rect → Rect → Rect
bounding_box a b = record {
  x1 = int_min a.x1 b.x1;
  y1 = int_min a.y1 b.y1;
  x2 = int_max a.x2 b.x2;
  y2 = int_max a.y2 b.y2;
}

-- what they have in common; sides stand in no order where that is nothing
abbrev pub common : Rect → Rect → Rect
common a b = record {
  x1 = int_max a.x1 b.x1;
  y1 = int_max a.y1 b.y1;
  x2 = int_min a.x2 b.x2;
  y2 = int_min a.y2 b.y2;
}

-- a rectangle grown by n squares on each side
abbrev pub grown : ℕ → Rect → Rect
grown n r = record {
  x1 = r.x1 -ℤ pos n;
  y1 = r.y1 -ℤ pos n;
  x2 = r.x2 +ℤ pos n;
  y2 = r.y2 +ℤ pos n;
}

-- ---- what these say of squares

-- each holds for all rectangles, also for those without a square
pub record RectLaws : Type 0 where
  pub meets_is : (a b : Rect) → (meets a b ≡ true) ↔ ShareSquare a b
  pub inside_has : (a b : Rect) (s : Square) → IsInside a b → has a s ≡ true → has b s ≡ true
  pub inside_is : (a b : Rect) → (is_inside a b ≡ true) ↔ IsInside a b
  pub rect_is : (r : Rect) → (is_rect r ≡ true) ↔ IsRect r
  pub common_has : (a b : Rect) (s : Square) → has (common a b) s ≡ (has a s && has b s)
  pub box_first : (a b : Rect) → IsInside a (bounding_box a b)
  pub box_second : (a b : Rect) → IsInside b (bounding_box a b)
  pub box_least : (a b r : Rect) → IsInside a r → IsInside b r → IsInside (bounding_box a b) r
  pub grown_inside : (n : ℕ) (r : Rect) → IsInside r (grown n r)

-- ---- corners and motions

-- the rectangle of no squares that is one point
abbrev pub rect_at : Point → Rect
rect_at p = record { x1 = p.x; y1 = p.y; x2 = p.x; y2 = p.y }

-- the rectangle between two opposite corners
abbrev pub rect_between : Point → Point → Rect
rect_between p q = bounding_box (rect_at p) (rect_at q)

-- the rectangle between the images of two opposite corners
abbrev pub moved_rect : Motion → Rect → Rect
moved_rect m r =
    let low : Point = record { x = r.x1; y = r.y1 } in
    let high : Point = record { x = r.x2; y = r.y2 } in
    rect_between (moved_point m low) (moved_point m high)
