-- Data as bytes: each is a byte, and it is read as what it was written from.
use Rattle.std.proofs.Common.{◌≡◌, ℕ, zero, suc, ◌+◌, ◌%◌, ◌^◌, ◌<◌, Bool, true, false, cond, List, [], ◌∷◌, ◌++◌, length, refl, ap, ◌∙◌, arith, ℤ, pos, negsuc, ◌/◌, w16, w32, w64, SFits, to_z, of_z, length-append}
use Rattle.std.specs.Prelude.{◌==◌}
use Rattle.std.specs.List.{flat_map}
use Rattle.std.specs.Int.{to_be_bytes, cast_signed, cast_unsigned}
use Rattle.std.proofs.lemmas.Bool.{eqb-true, eqb-false}
use Rattle.std.proofs.lemmas.Int.{ints, to_z-of_z}
use Rattle.std.proofs.lemmas.Nat.{from_be_bytes-to_be_bytes_2, from_be_bytes-to_be_bytes_4}
use Rattle.geo_base.specs.declared.shapes.Point.{Point}
use Rattle.geo_base.specs.declared.shapes.Rect.{Rect}
use Rattle.gds_records.specs.Records.{IsBytes}
use Rattle.gds_elements.specs.Data.{number, coordinate, points_of, put_before, trimmed}
use Rattle.geo_base.specs.Near.{IsLong, IsLongPoint, IsLongRect}
use Rattle.gds_shapes.specs.Data.{IsShort, filled, long_bytes, point_bytes}
use Rattle.gds_shapes.specs.Stream.{corners, outline}

-- ---- bytes

pub nil : IsBytes []
nil i = omega arith

pub cons : (b : ℕ) (bs : List ℕ) → b < 256 → IsBytes bs → IsBytes (b ∷ bs)
cons b bs h g zero = h
cons b bs h g (suc i) = g i

pub joined : (xs ys : List ℕ) → IsBytes xs → IsBytes ys → IsBytes (xs ++ ys)
joined [] ys h g i = g i
joined (x ∷ xs) ys h g zero = h zero
joined (x ∷ xs) ys h g (suc i) = joined xs ys (λ j. h (suc j)) g i

low : (n : ℕ) → n % 256 < 256
low n = omega arith

two : (a b : ℕ) → IsBytes (a % 256 ∷ b % 256 ∷ [])
two a b = cons (a % 256) (b % 256 ∷ []) (low a) (cons (b % 256) [] (low b) nil)

pub number_bytes : (n : ℕ) → IsBytes (to_be_bytes w16 n)
number_bytes n = two (n / 256 ^ 1) n

long_fits : (z : ℤ) → IsBytes (long_bytes z)
long_fits z = let n = cast_unsigned w32 z in joined (n / 256 ^ 3 % 256 ∷ n / 256 ^ 2 % 256 ∷ []) (n / 256 ^ 1 % 256 ∷ n % 256 ∷ []) (two (n / 256 ^ 3) (n / 256 ^ 2)) (two (n / 256 ^ 1) n)

pub points_fit : (ps : List Point) → IsBytes (flat_map point_bytes ps)
points_fit [] = nil
points_fit (p ∷ ps) = joined (point_bytes p) _ (joined (long_bytes p.x) (long_bytes p.y) (long_fits p.x) (long_fits p.y)) (points_fit ps)

pub outline_bytes : (r : Rect) → IsBytes (outline r)
outline_bytes r = points_fit (corners r)

-- ---- strings

pub record Filled (body text : List ℕ) : Type 0 where
  pub even : length body % 2 ≡ 0
  pub short : length body + 4 < 2 ^ 16
  pub bytes : IsBytes body
  pub same : trimmed body ≡ trimmed text

trimmed_nul : (text : List ℕ) → trimmed (text ++ 0 ∷ []) ≡ trimmed text
trimmed_nul [] = refl
trimmed_nul (b ∷ text) = ap (λ (bs : List ℕ). put_before b bs) (trimmed_nul text)

odd : (n : ℕ) → (n % 2 ≡ 0 → ⊥) → (n + 1) % 2 ≡ 0
odd n h = omega (arith, h)

pub string_filled : (text : List ℕ) → IsShort text → IsBytes text → Filled (filled text) text
string_filled text short bytes = by_test (length text % 2 == 0) refl
  where
    by_test : (b : Bool) → (length text % 2 == 0) ≡ b → Filled (cond b text (text ++ 0 ∷ [])) text
    by_test true e = record { even = eqb-true _ _ e; short = omega (arith, short); bytes = bytes; same = refl }
    by_test false e =
        let h : length (text ++ 0 ∷ []) ≡ length text + 1 = length-append text (0 ∷ []) in
        let n = eqb-false _ _ e in
        record { even = omega (arith, h, n); short = omega (arith, h, n, short); bytes = joined text (0 ∷ []) bytes (cons 0 [] (omega arith) nil); same = trimmed_nul text }

-- ---- what is read

pub number_back : (n : ℕ) → n < 2 ^ 16 → number (to_be_bytes w16 n) ≡ n
number_back n h = from_be_bytes-to_be_bytes_2 n h

-- a coordinate as it is read
abbrev pub read_back : ℤ → ℤ
read_back z = coordinate (long_bytes z) 0

low_bits : (z : ℤ) → IsLong z → cast_unsigned w32 z < 2 ^ 32
low_bits z h = omega (arith, ints, h.low, h.high)

fits : (z : ℤ) → IsLong z → SFits w32 z
fits (pos n) h = record { sfits = omega (arith, ints, h.high) }
fits (negsuc n) h = record { sfits = omega (arith, ints, h.low) }

pub same_long : (z : ℤ) → IsLong z → read_back z ≡ z
same_long z h = ap (λ (n : ℕ). cast_signed w32 n) (from_be_bytes-to_be_bytes_4 (cast_unsigned w32 z) (low_bits z h)) ∙ to_z-of_z w32 z (fits z h)

-- a rectangle whose outline was read
abbrev pub rect_back : Rect → Rect
rect_back r = record { x1 = read_back r.x1; y1 = read_back r.y1; x2 = read_back r.x2; y2 = read_back r.y2 }

pub same_rect : (r : Rect) → IsLongRect r → rect_back r ≡ r
same_rect r h =
    ap (λ (x : ℤ). let s : Rect = record { x1 = x; y1 = read_back r.y1; x2 = read_back r.x2; y2 = read_back r.y2 } in s) (same_long r.x1 h.x1)
    ∙ ap (λ (y : ℤ). let s : Rect = record { x1 = r.x1; y1 = y; x2 = read_back r.x2; y2 = read_back r.y2 } in s) (same_long r.y1 h.y1)
    ∙ ap (λ (x : ℤ). let s : Rect = record { x1 = r.x1; y1 = r.y1; x2 = x; y2 = read_back r.y2 } in s) (same_long r.x2 h.x2)
    ∙ ap (λ (y : ℤ). let s : Rect = record { x1 = r.x1; y1 = r.y1; x2 = r.x2; y2 = y } in s) (same_long r.y2 h.y2)

pub read_corners : (r : Rect) → points_of (outline r) ≡ corners (rect_back r)
read_corners r = refl

pub same_corners : (r : Rect) → IsLongRect r → points_of (outline r) ≡ corners r
same_corners r h = read_corners r ∙ ap (λ (s : Rect). corners s) (same_rect r h)

-- a coordinate that was made one of four bytes, and is passed on
abbrev passed : ℤ → ℤ
passed z = to_z w32 (of_z w32 z)

far_fits : (z : ℤ) → IsLong z → SFits w64 z
far_fits (pos n) h = record { sfits = omega (arith, ints, h.high) }
far_fits (negsuc n) h = record { sfits = omega (arith, ints, h.low) }

same_passed : (z x : ℤ) → IsLong z → x ≡ to_z w64 (of_z w64 z) → passed x ≡ z
same_passed z x h e = ap (λ (y : ℤ). passed y) (e ∙ to_z-of_z w64 z (far_fits z h)) ∙ to_z-of_z w32 z (fits z h)

pub passed_rect : (r : Rect) (x1 y1 x2 y2 : ℤ) → IsLongRect r
    → x1 ≡ to_z w64 (of_z w64 r.x1) → y1 ≡ to_z w64 (of_z w64 r.y1) → x2 ≡ to_z w64 (of_z w64 r.x2) → y2 ≡ to_z w64 (of_z w64 r.y2)
    → (let s : Rect = record { x1 = passed x1; y1 = passed y1; x2 = passed x2; y2 = passed y2 } in s) ≡ r
passed_rect r x1 y1 x2 y2 h e f g i = rw (same_passed r.x1 x1 h.x1 e, same_passed r.y1 y1 h.y1 f, same_passed r.x2 x2 h.x2 g, same_passed r.y2 y2 h.y2 i) refl

pub passed_point : (p : Point) (x y : ℤ) → IsLongPoint p → x ≡ to_z w64 (of_z w64 p.x) → y ≡ to_z w64 (of_z w64 p.y) → (let q : Point = record { x = passed x; y = passed y } in q) ≡ p
passed_point p x y h e f = rw (same_passed p.x x h.x e, same_passed p.y y h.y f) refl
