-- A canonical list has as many squares as its area says.
use Rattle.std.proofs.Common.{◌≡◌, ◌⊎◌, inl, inr, ℕ, zero, suc, ◌+◌, ◌*◌, ℤ, pos, ◌+ℤ◌, ◌-ℤ◌, ◌≤ℤ◌, ◌<ℤ◌, unsigned_abs, List, [], ◌∷◌, ◌++◌, Bool, true, false, ◌<◌, ◌≤◌, length, take, get_or, negsuc, refl, sym, ◌∙◌, ap, subst, arith, Result, Ok, Err}
use Rattle.std.specs.Result.{OnErr}
use Rattle.std.proofs.lemmas.Int.{ints, by_lt_z}
use Rattle.std.proofs.lemmas.Bool.{false≢true, or_left, or_right, or_cases}
use Rattle.std.proofs.lemmas.List.{take_more}
use Rattle.geo_base.specs.Rects.{has, IsRect}
use Rattle.geo_base.specs.declared.shapes.Rect.{Rect}
use Rattle.geo_base.specs.declared.shapes.Square.{Square}
use Rattle.rect_sets.specs.Rects.{covers, IsBlock, IsBelow, AreAbove, IsOrdered, IsListed, IsCanonical}
use Rattle.rect_sets.proofs.Blocking.{covers_listed}
use Rattle.rect_sets.proofs.Splitting.{IsInside, inside_from, shared_block}
use Rattle.rect_sets.proofs.Unique.{rect_of}
use Rattle.flat_layout.specs.Parts.{Counts}
use Rattle.gate_shapes.specs.Sets.{in_set, area_of, area}
use Rattle.gate_shapes.proofs.Counting.{counts_none, counts_one, counts_same, counts_or}

-- n squares of a row, from x on
record IsAt (x : ℤ) (n : ℕ) (y : ℤ) (q : Square) : Type 0 where
  row : q.y ≡ y
  low : x ≤ℤ q.x
  high : q.x <ℤ (x +ℤ pos n)

pub same_square : (p q : Square) → p.x ≡ q.x → p.y ≡ q.y → p ≡ q
same_square p q x y = ap (λ (v : ℤ). let s : Square = record { x = v; y = p.y } in s) x ∙ ap (λ (v : ℤ). let s : Square = record { x = q.x; y = v } in s) y

at_none : (x y : ℤ) (q : Square) → IsAt x 0 y q → ⊥
at_none x y q h = let a = h.low in let b = h.high in omega (arith, ints)

at_one : (x y : ℤ) (n : ℕ) (q : Square) → IsAt x (suc n) y q → (q ≡ record { x = x; y = y }) ⊎ IsAt (x +ℤ pos 1) n y q
at_one x y n q h =
    let a = h.low in let b = h.high in let r = h.row in
    by_lt_z x q.x
    (λ lt. inr (record { row = r; low = omega (arith, ints); high = omega (arith, ints) }))
    (λ le. inl (same_square q (record { x = x; y = y }) (omega (arith, ints)) r))

row_count : (x y : ℤ) (n : ℕ) → Counts (IsAt x n y) n
row_count x y zero = counts_none (IsAt x zero y) (at_none x y)
row_count x y (suc n) =
    let first : Square = record { x = x; y = y } in
    counts_same (λ q. (q ≡ first) ⊎ IsAt (x +ℤ pos 1) n y q) (IsAt x (suc n) y) (suc n)
    (λ q. (
      (λ h. elim h [
        | inl e ↦ subst (λ (p : Square). IsAt x (suc n) y p) (sym e) (record { row = refl; low = omega (arith, ints); high = omega (arith, ints) })
        | inr g ↦ (let a = g.low in let b = g.high in record { row = g.row; low = omega (arith, ints); high = omega (arith, ints) })
      ]),
      at_one x y n q,
    ))
    (counts_or (λ q. q ≡ first) (IsAt (x +ℤ pos 1) n y) 1 n (suc n) (omega arith)
    (λ q e g. let a = g.low in let f = ap (λ (p : Square). p.x) e in omega (arith, ints))
    (counts_one (λ q. q ≡ first) first refl (λ q e. e))
    (row_count (x +ℤ pos 1) y n))

-- n rows of w squares each
pub record IsWithin (x : ℤ) (w : ℕ) (y : ℤ) (n : ℕ) (q : Square) : Type 0 where
  pub low_x : x ≤ℤ q.x
  pub high_x : q.x <ℤ (x +ℤ pos w)
  pub low_y : y ≤ℤ q.y
  pub high_y : q.y <ℤ (y +ℤ pos n)

pub box_count : (x : ℤ) (w : ℕ) (y : ℤ) (n : ℕ) → Counts (IsWithin x w y n) (n * w)
box_count x w y zero =
    subst (λ (k : ℕ). Counts (IsWithin x w y zero) k) (omega arith) (counts_none (IsWithin x w y zero) (λ q h. let a = h.low_y in let b = h.high_y in omega (arith, ints)))
box_count x w y (suc n) =
    counts_same (λ q. IsAt x w y q ⊎ IsWithin x w (y +ℤ pos 1) n q) (IsWithin x w y (suc n)) (suc n * w)
    (λ q. (
      (λ h. elim h [
        | inl g ↦ (let r = g.row in record { low_x = g.low; high_x = g.high; low_y = omega (arith, ints); high_y = omega (arith, ints) })
        | inr g ↦ (let a = g.low_y in let b = g.high_y in record { low_x = g.low_x; high_x = g.high_x; low_y = omega (arith, ints); high_y = omega (arith, ints) })
      ]),
      (λ h. let a = h.low_y in let b = h.high_y in
          by_lt_z y q.y
          (λ lt. inr (record { low_x = h.low_x; high_x = h.high_x; low_y = omega (arith, ints); high_y = omega (arith, ints) }))
          (λ le. inl (record { row = omega (arith, ints); low = h.low_x; high = h.high_x }))),
    ))
    (counts_or (IsAt x w y) (IsWithin x w (y +ℤ pos 1) n) w (n * w) (suc n * w) (omega arith)
    (λ q g h. let r = g.row in let a = h.low_y in omega (arith, ints))
    (row_count x y w)
    (box_count x w (y +ℤ pos 1) n))

pub inside_has : (r : Rect) (s : Square) → IsInside r s → has r s ≡ true
inside_has r s h = let a = h.x1 in let b = h.x2 in let c = h.y1 in let d = h.y2 in grind (arith, ints)

positive : (z : ℤ) → pos 0 <ℤ z → pos (unsigned_abs z) ≡ z
positive (pos n) h = refl
positive (negsuc n) h = absurd (omega (arith, ints))

pub to_abs : (a b : ℤ) → a <ℤ b → pos (unsigned_abs (b -ℤ a)) ≡ (b -ℤ a)
to_abs a b h = positive (b -ℤ a) (omega (arith, ints))

width_is : (a b : ℤ) → a <ℤ b → (a +ℤ pos (unsigned_abs (b -ℤ a))) ≡ b
width_is a b h = omega (arith, ints, to_abs a b h)

pub rect_count : (r : Rect) → IsRect r → Counts (λ q. has r q ≡ true) (area_of r)
rect_count r rect =
    let w = unsigned_abs (r.x2 -ℤ r.x1) in
    let h = unsigned_abs (r.y2 -ℤ r.y1) in
    let ex : (r.x1 +ℤ pos w) ≡ r.x2 = width_is r.x1 r.x2 rect.wide in
    let ey : (r.y1 +ℤ pos h) ≡ r.y2 = width_is r.y1 r.y2 rect.high in
    let turn : h * w ≡ area_of r = omega arith in
    subst (λ (k : ℕ). Counts (λ q. has r q ≡ true) k) turn
    (counts_same (IsWithin r.x1 w r.y1 h) (λ q. has r q ≡ true) (h * w)
    (λ q. (
      (λ i. let a = i.high_x in let b = i.high_y in inside_has r q (record { x1 = i.low_x; x2 = omega (arith, ints); y1 = i.low_y; y2 = omega (arith, ints) })),
      (λ e. let i = inside_from r q e in let a = i.x2 in let b = i.y2 in record { low_x = i.x1; high_x = omega (arith, ints); low_y = i.y1; high_y = omega (arith, ints) }),
    ))
    (box_count r.x1 w r.y1 h))

-- no two share a square
abbrev AreDisjoint : List Rect → Type 0
AreDisjoint [] = Unit {0}
AreDisjoint (r ∷ rects) = ((q : Square) → has r q ≡ true → covers rects q ≡ true → ⊥) × AreDisjoint rects

list_count : (rects : List Rect) → AreDisjoint rects → ((r : Rect) → IsListed r rects → IsRect r) → Counts (in_set rects) (area rects)
list_count [] h good = counts_none (in_set []) (λ q e. false≢true e)
list_count (r ∷ rects) h good =
    counts_same (λ q. (has r q ≡ true) ⊎ in_set rects q) (in_set (r ∷ rects)) (area (r ∷ rects))
    (λ q. ((λ i. elim i [ inl e ↦ or_left (has r q) (covers rects q) e | inr e ↦ or_right (has r q) (covers rects q) e ]), or_cases (has r q) (covers rects q)))
    (counts_or (λ q. has r q ≡ true) (in_set rects) (area_of r) (area rects) (area (r ∷ rects)) refl h.0 (rect_count r (good r (inl refl))) (list_count rects h.1 (λ s l. good s (inr l))))

not_above : (r : Rect) (rects : List Rect) → AreAbove r rects → IsListed r rects → ⊥
not_above r [] h l = l
not_above r (s ∷ rects) h (inl e) = let b : IsBelow r r = subst (λ (t : Rect). IsBelow r t) (sym e) h.0 in elim b [ inl lt ↦ omega (arith, ints) | inr p ↦ (let lt = p.1 in omega (arith, ints)) ]
not_above r (s ∷ rects) h (inr l) = not_above r rects h.1 l

disjoint : (set : Square → Bool) (rects : List Rect) → IsOrdered rects → ((r : Rect) → IsListed r rects → IsBlock set r) → AreDisjoint rects
disjoint set [] o each = tt
disjoint set (r ∷ rects) o each = (
  (λ q e c.
      let s = covers_listed rects q c in
      let same : r ≡ s.one = shared_block set r s.one q (each r (inl refl)) (each s.one (inr s.listed)) (inside_from r q e) (inside_from s.one q s.inside) in
      not_above r rects o.0 (subst (λ (t : Rect). IsListed t rects) (sym same) s.listed)),
  disjoint set rects o.1 (λ s l. each s (inr l)),
)

-- a canonical list has as many squares as its area says
pub canonical_count : (rects : List Rect) → IsCanonical rects → Counts (in_set rects) (area rects)
canonical_count rects h =
    list_count rects (disjoint (covers rects) rects h.ordered (λ r l. (h.each r).0 l)) (λ r l. rect_of (covers rects) r ((h.each r).0 l))

area_push : (xs : List Rect) (r : Rect) → area (xs ++ r ∷ []) ≡ area xs + area_of r
area_push [] r = omega arith
area_push (x ∷ xs) r = let e = area_push xs r in omega (arith, e)

pub area_more : (rects : List Rect) (i : ℕ) (d : Rect) → i < length rects → area (take (i + 1) rects) ≡ area (take i rects) + area_of (get_or rects i d)
area_more rects i d lt = ap area (take_more rects i d lt) ∙ area_push (take i rects) (get_or rects i d)

-- the first rectangles have no more than all
pub area_up : (rects : List Rect) (n : ℕ) → area (take n rects) ≤ area rects
area_up rects zero = omega arith
area_up [] (suc n) = omega arith
area_up (r ∷ rects) (suc n) = let e = area_up rects n in omega (arith, e)

pub on_err : {T E : Type 0} (r : Result T E) (P : Type 0) → P → OnErr r P
on_err (Ok x) P h = tt
on_err (Err e) P h = h
