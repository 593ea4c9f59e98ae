-- The sides of an array as they are read, and its steps.
use Rattle.std.proofs.Common.{◌≡◌, ℕ, zero, suc, ◌+◌, ◌*◌, ◌%◌, ◌/◌, ◌^◌, ◌<◌, Bool, true, false, cond, [], ◌∷◌, ◌++◌, refl, sym, ap, ◌∙◌, arith, ℤ, pos, negsuc}
use Rattle.std.proofs.lemmas.Bool.{and_from}
use Rattle.std.specs.Prelude.{◌==◌, not, unsigned_abs, int_div, ◌+ℤ◌, ◌-ℤ◌, ◌*ℤ◌, neg_ℤ}
use Rattle.std.specs.Int.{w16, to_be_bytes}
use Rattle.std.specs.List.{flat_map}
use Rattle.std.proofs.lemmas.Int.{ints, unsigned_abs-mul}
use Rattle.std.proofs.lemmas.Nat.{from_be_bytes-to_be_bytes_2}
use Rattle.std.proofs.Math.Nat.{mul-div_cancel_left, mul-mod_right}
use Rattle.geo_base.specs.Near.{IsLongPoint}
use Rattle.geo_base.specs.declared.shapes.Point.{Point}
use Rattle.gds_elements.specs.Data.{side, goes_into, step, is_count, columns_in, rows_in}
use Rattle.gds_shapes.specs.Data.{point_bytes}
use Rattle.gds_shapes.specs.References.{IsCount, stepped}
use Rattle.gds_shapes.proofs.Bodies.{read_back, same_long}

-- ---- products

one_of : (k n m : ℕ) → suc k * suc n ≡ suc m → int_div (neg_ℤ (pos (suc k * suc n))) (pos (suc k)) ≡ neg_ℤ (pos (suc k * suc n / suc k))
one_of k n m e = ap (λ (x : ℕ). int_div (neg_ℤ (pos x)) (pos (suc k))) e ∙ ap (λ (x : ℕ). neg_ℤ (pos (x / suc k))) (sym e)

pub divided : (c : ℕ) (s : ℤ) → 0 < c → int_div (pos c *ℤ s) (pos c) ≡ s
divided zero s h = absurd (omega (arith, h))
divided (suc k) (pos n) h = ap (λ (q : ℕ). pos q) (mul-div_cancel_left n h)
divided (suc k) (negsuc n) h =
    let e : suc k * suc n ≡ suc (k * suc n + n) = omega arith in
    one_of k n (k * suc n + n) e ∙ ap (λ (q : ℕ). neg_ℤ (pos q)) (mul-div_cancel_left (suc n) h)

none_left : (c : ℕ) (s : ℤ) → unsigned_abs (pos c *ℤ s) % c ≡ 0
none_left c s = ap (λ (n : ℕ). n % c) (unsigned_abs-mul (pos c) s) ∙ mul-mod_right c (unsigned_abs s)

-- ---- sides

-- so many equal steps
abbrev pub multiple : ℕ → Point → Point
multiple c s = record { x = pos c *ℤ s.x; y = pos c *ℤ s.y }

zero_same : (n : ℕ) → n ≡ 0 → (n == 0) ≡ true
zero_same n e = rw e refl

not_zero : (c : ℕ) → 0 < c → (c == 0) ≡ false
not_zero zero h = absurd (omega (arith, h))
not_zero (suc c) h = grind arith

pub goes : (c : ℕ) (s : Point) → 0 < c → goes_into c (multiple c s) ≡ true
goes c s h = and_from _ _ (and_from _ _ (ap not (not_zero c h)) (zero_same _ (none_left c s.x))) (zero_same _ (none_left c s.y))

pub stepped_back : (c : ℕ) (s : Point) → 0 < c → step (multiple c s) c ≡ s
stepped_back c s h =
    ap (λ (b : Bool). let zero_point : Point = record { x = pos 0; y = pos 0 } in let p : Point = record { x = int_div (pos c *ℤ s.x) (pos c); y = int_div (pos c *ℤ s.y) (pos c) } in cond b zero_point p) (not_zero c h)
    ∙ ap (λ (z : ℤ). let p : Point = record { x = z; y = int_div (pos c *ℤ s.y) (pos c) } in p) (divided c s.x h)
    ∙ ap (λ (z : ℤ). let p : Point = record { x = s.x; y = z } in p) (divided c s.y h)

difference : (a p : ℤ) → (a +ℤ p) -ℤ a ≡ p
difference a p = omega (arith, ints)

apart : (u v w z a b c d : ℤ) → u ≡ a → v ≡ b → w ≡ c → z ≡ d → (let p : Point = record { x = u -ℤ v; y = w -ℤ z } in let q : Point = record { x = a -ℤ b; y = c -ℤ d } in p ≡ q)
apart u v w z a b c d e f g h = rw (e, f, g, h) refl

span : (a : Point) (c : ℕ) (s : Point) → (let p : Point = record { x = (stepped a c s).x -ℤ a.x; y = (stepped a c s).y -ℤ a.y } in p) ≡ multiple c s
span a c s = rw (difference a.x (pos c *ℤ s.x), difference a.y (pos c *ℤ s.y)) refl

pub first_side : (a d : Point) (c : ℕ) (s : Point) → IsLongPoint a → IsLongPoint (stepped a c s) → side (flat_map point_bytes (a ∷ stepped a c s ∷ d ∷ [])) 8 ≡ multiple c s
first_side a d c s l m =
    let b = stepped a c s in
    apart (read_back b.x) (read_back a.x) (read_back b.y) (read_back a.y) b.x a.x b.y a.y (same_long b.x m.x) (same_long a.x l.x) (same_long b.y m.y) (same_long a.y l.y) ∙ span a c s

pub second_side : (a d : Point) (c : ℕ) (s : Point) → IsLongPoint a → IsLongPoint (stepped a c s) → side (flat_map point_bytes (a ∷ d ∷ stepped a c s ∷ [])) 16 ≡ multiple c s
second_side a d c s l m =
    let b = stepped a c s in
    apart (read_back b.x) (read_back a.x) (read_back b.y) (read_back a.y) b.x a.x b.y a.y (same_long b.x m.x) (same_long a.x l.x) (same_long b.y m.y) (same_long a.y l.y) ∙ span a c s

-- ---- counts

pub columns_back : (columns rows : ℕ) → columns < 2 ^ 16 → columns_in (to_be_bytes w16 columns ++ to_be_bytes w16 rows) ≡ columns
columns_back columns rows h = from_be_bytes-to_be_bytes_2 columns h

pub rows_back : (columns rows : ℕ) → rows < 2 ^ 16 → rows_in (to_be_bytes w16 columns ++ to_be_bytes w16 rows) ≡ rows
rows_back columns rows h = from_be_bytes-to_be_bytes_2 rows h

pub is_counted : (n : ℕ) → IsCount n → is_count n ≡ true
is_counted n h = let a = h.some in let b = h.fits in grind (arith, a, b)
