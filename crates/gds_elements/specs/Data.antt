-- What the data of a record says: numbers, strings, points and eight-byte reals (GDSII Stream
-- Format, Release 6, data types).
use Rattle.std.specs.Prelude.{ℕ, zero, suc, ◌+◌, ◌-◌, ◌%◌, ℤ, pos, ◌-ℤ◌, Bool, true}
use Rattle.std.specs.Prelude.{false, ◌==◌, ◌||◌, ◌&&◌, not, nat_lt, nat_le, int_div}
use Rattle.std.specs.Prelude.{unsigned_abs, List, [], ◌∷◌, length, take, drop, replicate}
use Rattle.std.specs.Prelude.{slice_index, get_or, fold, Option, Some, None, if◌then◌else◌}
use Rattle.std.specs.List.{list_all, list_any, zip}
use Rattle.std.specs.Ordering.{int_eq}
use Rattle.std.specs.Int.{w16, w32, from_be_bytes, cast_signed}
use Rattle.fixed_num.specs.Real.{Real, is_unit, real_of}
use Rattle.geo_base.specs.declared.shapes.Point.{Point}
use Rattle.geo_base.specs.declared.shapes.Rect.{Rect}
use Rattle.geo_base.specs.Rects.{bounding_box, rect_at}

-- ---- numbers

-- two bytes, 0 for data of another length
abbrev pub number : List ℕ → ℕ
number bytes = if length bytes == 2 then from_be_bytes w16 bytes else 0

-- four bytes from a place on, in two's complement
abbrev pub coordinate : List ℕ → ℕ → ℤ
coordinate bytes at = cast_signed w32 (from_be_bytes w32 (slice_index bytes at ∷ slice_index bytes
    (at + 1) ∷ slice_index bytes (at + 2) ∷ slice_index bytes (at + 3) ∷ []))

-- four bytes in two's complement, 0 for data of another length
abbrev pub long : List ℕ → ℤ
long bytes = if length bytes == 4 then coordinate bytes 0 else pos 0

-- the columns and the rows of an array: two bytes each, 0 for data of another length
abbrev pub columns_in : List ℕ → ℕ
columns_in bytes = if length bytes == 4 then from_be_bytes w16 bytes else 0

abbrev pub rows_in : List ℕ → ℕ
rows_in bytes = if length bytes == 4 then from_be_bytes w16 (slice_index bytes 2
    ∷ slice_index bytes 3 ∷ []) else 0

-- two bytes that are at least 1 in two's complement
abbrev pub is_count : ℕ → Bool
is_count n = nat_lt 0 n && nat_lt n 32768

-- that many bytes, zeros for data of another length
abbrev pub exactly : ℕ → List ℕ → List ℕ
exactly n bytes = if length bytes == n then bytes else replicate n 0

-- ---- strings

abbrev pub is_empty : List ℕ → Bool
is_empty [] = true
is_empty (b ∷ bytes) = false

abbrev pub put_before : ℕ → List ℕ → List ℕ
put_before zero [] = []
put_before (suc k) [] = suc k ∷ []
put_before k (c ∷ cs) = k ∷ c ∷ cs

-- without NULs at the end
abbrev pub trimmed : List ℕ → List ℕ
trimmed [] = []
trimmed (b ∷ bytes) = put_before b (trimmed bytes)

-- ---- points

abbrev pub origin : Point
origin = record { x = pos 0; y = pos 0 }

-- the point in the first eight bytes
abbrev pub first_point : List ℕ → Point
first_point bytes = record { x = coordinate bytes 0; y = coordinate bytes 4 }

-- eight bytes a point; bytes that are too few for one more are none
abbrev pub points_of : List ℕ → List Point
points_of (a ∷ b ∷ c ∷ d ∷ e ∷ f ∷ g ∷ h ∷ rest) = first_point (a ∷ b ∷ c ∷ d ∷ e ∷ f ∷ g ∷ h
    ∷ []) ∷ points_of rest
points_of _ = []

abbrev pub is_same : Point → Point → Bool
is_same p q = int_eq p.x q.x && int_eq p.y q.y

-- one stands above or beside the other
abbrev pub is_level : Point → Point → Bool
is_level p q = int_eq p.x q.x || int_eq p.y q.y

-- each point with the next
abbrev pub neighbours : List Point → List (Point × Point)
neighbours ps = zip ps (drop 1 ps)

-- no edge is slanted
abbrev pub is_straight : List Point → Bool
is_straight ps = list_all (λ (p, q). is_level p q) (neighbours ps)

-- two neighbours differ
abbrev pub has_length : List Point → Bool
has_length ps = list_any (λ (p, q). not (is_same p q)) (neighbours ps)

-- the first point, and the last
abbrev pub first_of : List Point → Point
first_of ps = get_or ps 0 origin

abbrev pub last_of : List Point → Point
last_of ps = get_or ps (length ps - 1) origin

-- the last point is the first
abbrev pub is_closed : List Point → Bool
is_closed ps = is_same (first_of ps) (last_of ps)

-- from the least to the greatest coordinates
abbrev pub hull : List Point → Rect
hull ps = fold (λ r q. bounding_box r (rect_at q)) (rect_at (first_of ps)) ps

-- ---- arrays: the three points' data

-- from the first point to the one that begins at a place
abbrev pub side : List ℕ → ℕ → Point
side bytes at = if length bytes == 24
    then record {
      x = coordinate bytes at -ℤ coordinate bytes 0;
      y = coordinate bytes
          (at + 4) -ℤ coordinate bytes 4;
    } else origin

-- a whole number of times, in x and in y
abbrev pub goes_into : ℕ → Point → Bool
goes_into count p = not (count == 0) && (unsigned_abs p.x % count) == 0
    && (unsigned_abs p.y % count) == 0

-- one of so many equal steps along a side
abbrev pub step : Point → ℕ → Point
step p count = if count == 0 then origin else record {
  x = int_div p.x (pos count);
  y = int_div p.y (pos count);
}

-- ---- reals

-- the eight-byte real; zeros stand for data of another length
abbrev pub real_in : List ℕ → Real
real_in bytes = real_of (exactly 8 bytes)

-- the second of the two reals in the data of UNITS: the database unit in metres
abbrev pub unit_in : List ℕ → List ℕ
unit_in bytes = take 8 (drop 8 (exactly 16 bytes))

-- it is one of 1 to 1,000,000 picometres
abbrev pub has_unit : List ℕ → Bool
has_unit bytes = is_unit (real_in (unit_in bytes))
