-- What the references of a library that was read have.
use Rattle.std.proofs.Common.{◌≡◌, ◌⊎◌, inl, inr, ℕ, zero, suc, ◌+◌, ◌-◌, ◌*◌, ◌/◌, ◌^◌, ◌<◌, ◌≤◌, Bool, true, false, cond, List, [], ◌∷◌, ◌++◌, length, None, refl, sym, ap, subst, ◌∙◌, arith, ℤ, pos, negsuc}
use Rattle.std.specs.Prelude.{◌==◌, ◌&&◌, ◌||◌, nat_lt, int_div, ◌+ℤ◌, ◌-ℤ◌, ◌*ℤ◌, ◌≤ℤ◌, neg_ℤ}
use Rattle.std.specs.Int.{w32, cast_signed}
use Rattle.std.specs.List.{All, AllByRecursion as ByRecursion}
use Rattle.std.proofs.lemmas.Bool.{eqb-true, and_parts}
use Rattle.std.proofs.lemmas.Int.{ints}
use Rattle.std.proofs.lemmas.List.Elements.{All-from_recursion}
use Rattle.std.proofs.Math.Nat.{mul-div-le}
use Rattle.geo_base.specs.Near.{IsLong, IsLongPoint}
use Rattle.geo_base.specs.declared.motion.Motion.{Motion}
use Rattle.geo_base.specs.declared.motion.Turn.{Turn}
use Rattle.geo_base.specs.declared.shapes.Point.{Point}
use Rattle.gds_records.specs.Records.{Rec, Records, NoRecords, ◌▸◌}
use Rattle.gds_records.specs.Kinds.{BOUNDARY, PATH, SREF, AREF, COLROW, STRING, SNAME, ANGLE, XY, ENDEL, ENDSTR}
use Rattle.gds_elements.specs.Bounds.{is_line, is_bound}
use Rattle.gds_elements.specs.Data.{coordinate, origin, first_of, points_of, side, step, columns_in, rows_in, is_count, is_empty, trimmed}
use Rattle.gds_elements.specs.Meaning.{Ref, Cell, Library, opened, gathered, open_points, columns_of, rows_of, part, text_part, is_cell_bound, is_mirrored, quarters, turn_of, motion_of, single, array, refs_by, open_refs, refs_of, open_cells, cells_of}
use Rattle.gds_elements.specs.Faults.{content_fault, fault_of, Passes, Accepts}
use Rattle.gds_elements.proofs.Passing.{passed}
use Rattle.gds_elements.specs.Placeable.{PlaceableLaw}
use Rattle.gds_shapes.specs.Data.{IsText, IsNamed}
use Rattle.gds_shapes.specs.References.{stepped, HasLongPoints}
use Rattle.gds_shapes.specs.Accepted.{ReadReferencesLaw}
use Rattle.gds_shapes.proofs.ReadLaw.{trimmed_text, found_bytes, found_short, unit_tested}
use Rattle.gds_shapes.proofs.Placements.{one_record}
use Rattle.gds_elements.proofs.Parts.{opened_still}

-- ---- numbers of four bytes

signed_long : (n : ℕ) (b : Bool) → nat_lt n (2 ^ 31) ≡ b → IsLong (cond b (pos n) (negsuc (2 ^ 32 - suc n)))
signed_long n true e = record { low = omega (arith, ints); high = (let h : n < 2 ^ 31 = grind arith in omega (arith, ints, h)) }
signed_long n false e = record { low = (let h : (n < 2 ^ 31) → ⊥ = grind arith in omega (arith, ints, h)); high = omega (arith, ints) }

four_long : (n : ℕ) → IsLong (cast_signed w32 n)
four_long n = signed_long n (nat_lt n (2 ^ 31)) refl

zero_long : IsLong (pos 0)
zero_long = record { low = omega (arith, ints); high = omega (arith, ints) }

-- ---- equal steps towards a place don't go beyond it

neg_product : (c q : ℕ) → pos c *ℤ neg_ℤ (pos q) ≡ neg_ℤ (pos (c * q))
neg_product c zero = omega (arith, ints)
neg_product c (suc q) = refl

neg_between : (m n : ℕ) → m ≤ suc n → (negsuc n ≤ℤ neg_ℤ (pos m)) × (neg_ℤ (pos m) ≤ℤ pos 0)
neg_between zero n h = (omega (arith, ints), omega (arith, ints))
neg_between (suc m) n h = (omega (arith, ints, h), omega (arith, ints))

short_of : (c : ℕ) (d : ℤ) → ((pos 0 ≤ℤ (pos c *ℤ int_div d (pos c))) × ((pos c *ℤ int_div d (pos c)) ≤ℤ d)) ⊎ ((d ≤ℤ (pos c *ℤ int_div d (pos c))) × ((pos c *ℤ int_div d (pos c)) ≤ℤ pos 0))
short_of c (pos n) = let h = mul-div-le n c in inl (omega (arith, ints), omega (arith, ints, h))
short_of c (negsuc n) =
    let P : ℤ → Type 0 = λ z. (negsuc n ≤ℤ z) × (z ≤ℤ pos 0) in
    inr (subst P (sym (neg_product c (suc n / c))) (neg_between (c * (suc n / c)) n (mul-div-le (suc n) c)))

between_long : (a b p : ℤ) → IsLong a → IsLong b → (((pos 0 ≤ℤ p) × (p ≤ℤ (b -ℤ a))) ⊎ (((b -ℤ a) ≤ℤ p) × (p ≤ℤ pos 0))) → IsLong (a +ℤ p)
between_long a b p f g (inl h) = let u = f.low in let v = g.high in let w = h.0 in let x = h.1 in record { low = omega (arith, ints, u, w); high = omega (arith, ints, v, x) }
between_long a b p f g (inr h) = let u = f.high in let v = g.low in let w = h.0 in let x = h.1 in record { low = omega (arith, ints, v, w); high = omega (arith, ints, u, x) }

end_long : (c : ℕ) (a b : ℤ) → IsLong a → IsLong b → IsLong (a +ℤ (pos c *ℤ int_div (b -ℤ a) (pos c)))
end_long c a b f g = between_long a b (pos c *ℤ int_div (b -ℤ a) (pos c)) f g (short_of c (b -ℤ a))

at_start : (a : ℤ) (c : ℕ) → IsLong a → IsLong (a +ℤ (pos c *ℤ pos 0))
at_start a c f = let u = f.low in let v = f.high in record { low = omega (arith, ints, u); high = omega (arith, ints, v) }

-- ---- the points of a reference

step_long : (bytes : List ℕ) (at c : ℕ) → (n : Bool) → IsLongPoint (stepped record { x = coordinate bytes 0; y = coordinate bytes 4 } c (cond n origin record { x = int_div (coordinate bytes at -ℤ coordinate bytes 0) (pos c); y = int_div (coordinate bytes (at + 4) -ℤ coordinate bytes 4) (pos c) }))
step_long bytes at c true = record { x = at_start (coordinate bytes 0) c (four_long _); y = at_start (coordinate bytes 4) c (four_long _) }
step_long bytes at c false = record { x = end_long c (coordinate bytes 0) (coordinate bytes at) (four_long _) (four_long _); y = end_long c (coordinate bytes 4) (coordinate bytes (at + 4)) (four_long _) (four_long _) }

near_zero : (a p : ℤ) → IsLong a → (((pos 0 ≤ℤ p) × (p ≤ℤ pos 0)) ⊎ ((pos 0 ≤ℤ p) × (p ≤ℤ pos 0))) → IsLong (a +ℤ p)
near_zero a p f (inl h) = let u = f.low in let v = f.high in let w = h.0 in let x = h.1 in record { low = omega (arith, ints, u, w); high = omega (arith, ints, v, x) }
near_zero a p f (inr h) = let u = f.low in let v = f.high in let w = h.0 in let x = h.1 in record { low = omega (arith, ints, u, w); high = omega (arith, ints, v, x) }

still_long : (a : Point) (c : ℕ) (n : Bool) → IsLongPoint a → IsLongPoint (stepped a c (cond n origin record { x = int_div (pos 0) (pos c); y = int_div (pos 0) (pos c) }))
still_long a c true f = record { x = at_start a.x c f.x; y = at_start a.y c f.y }
still_long a c false f = record { x = near_zero a.x _ f.x (short_of c (pos 0)); y = near_zero a.y _ f.y (short_of c (pos 0)) }

zero_point : IsLongPoint origin
zero_point = record { x = zero_long; y = zero_long }

first_long : (bytes : List ℕ) → IsLongPoint (first_of (points_of bytes))
first_long [] = zero_point
first_long (a ∷ []) = zero_point
first_long (a ∷ b ∷ []) = zero_point
first_long (a ∷ b ∷ c ∷ []) = zero_point
first_long (a ∷ b ∷ c ∷ d ∷ []) = zero_point
first_long (a ∷ b ∷ c ∷ d ∷ e ∷ []) = zero_point
first_long (a ∷ b ∷ c ∷ d ∷ e ∷ f ∷ []) = zero_point
first_long (a ∷ b ∷ c ∷ d ∷ e ∷ f ∷ g ∷ []) = zero_point
first_long (a ∷ b ∷ c ∷ d ∷ e ∷ f ∷ g ∷ h ∷ rest) = record { x = four_long _; y = four_long _ }

-- the first point of eight bytes or more
first_is : (bytes : List ℕ) → 7 < length bytes → (let p : Point = record { x = coordinate bytes 0; y = coordinate bytes 4 } in first_of (points_of bytes) ≡ p)
first_is [] h = absurd (omega (arith, h))
first_is (a ∷ []) h = absurd (omega (arith, h))
first_is (a ∷ b ∷ []) h = absurd (omega (arith, h))
first_is (a ∷ b ∷ c ∷ []) h = absurd (omega (arith, h))
first_is (a ∷ b ∷ c ∷ d ∷ []) h = absurd (omega (arith, h))
first_is (a ∷ b ∷ c ∷ d ∷ e ∷ []) h = absurd (omega (arith, h))
first_is (a ∷ b ∷ c ∷ d ∷ e ∷ f ∷ []) h = absurd (omega (arith, h))
first_is (a ∷ b ∷ c ∷ d ∷ e ∷ f ∷ g ∷ []) h = absurd (omega (arith, h))
first_is (a ∷ b ∷ c ∷ d ∷ e ∷ f ∷ g ∷ h ∷ rest) lt = refl

ends : (bytes : List ℕ) (at c : ℕ) → IsLongPoint (stepped (first_of (points_of bytes)) c (step (side bytes at) c))
ends bytes at c = by_test (length bytes == 24) refl
  where
    by_test : (b : Bool) → (length bytes == 24) ≡ b
        → IsLongPoint (stepped (first_of (points_of bytes)) c (step (cond b record { x = coordinate bytes at -ℤ coordinate bytes 0; y = coordinate bytes (at + 4) -ℤ coordinate bytes 4 } origin) c))
    by_test false e = still_long (first_of (points_of bytes)) c (c == 0) (first_long bytes)
    by_test true e =
        let size : length bytes ≡ 24 = eqb-true _ _ e in
        let P : Point → Type 0 = λ p. IsLongPoint (stepped p c (cond (c == 0) origin record { x = int_div (coordinate bytes at -ℤ coordinate bytes 0) (pos c); y = int_div (coordinate bytes (at + 4) -ℤ coordinate bytes 4) (pos c) })) in
        subst P (sym (first_is bytes (omega (arith, size)))) (step_long bytes at c (c == 0))

-- ---- columns and rows

low_counts : (columns rows : ℕ) → is_count columns ≡ true → is_count rows ≡ true → (columns < 2 ^ 15) × (rows < 2 ^ 15)
low_counts columns rows e f = (grind arith, grind arith)

abbrev AreLow : ℕ → ℕ → Type 0
AreLow columns rows = (columns < 2 ^ 15) × (rows < 2 ^ 15)

counts_more : (before : Records) (r : Rec) → fault_of before r ≡ None → AreLow (columns_of before) (rows_of before) → AreLow (columns_of (before ▸ r)) (rows_of (before ▸ r))
counts_more before r p rest = by_test (r.kind == COLROW) (is_bound r.kind) refl
  where
    by_test : (b bound : Bool) → (r.kind == COLROW) ≡ b → AreLow (columns_in (cond b r.body (cond bound [] (part COLROW before)))) (rows_in (cond b r.body (cond bound [] (part COLROW before))))
    by_test true bound e =
        let content = (passed before r p).sound in
        let kind : r.kind ≡ COLROW = eqb-true _ _ e in
        let test = unit_tested (is_count (columns_in r.body) && is_count (rows_in r.body)) 12 (subst (λ (k : ℕ). content_fault (opened before) (open_points before) (columns_of before) (rows_of before) k r.body ≡ None) kind content) in
        let t = and_parts _ _ test in
        low_counts (columns_in r.body) (rows_in r.body) t.0 t.1
    by_test false true e = (omega arith, omega arith)
    by_test false false e = rest

counts_low : (rs : Records) → Passes rs → AreLow (columns_of rs) (rows_of rs)
counts_low NoRecords p = (omega arith, omega arith)
counts_low (before ▸ r) p = counts_more before r p.2 (counts_low before p.0)

-- ---- references

-- all that a reference is to have but a column and a row
pub record IsLow (f : Ref) : Type 0 where
  pub cell : IsNamed f.cell
  pub columns : f.columns < 2 ^ 15
  pub rows : f.rows < 2 ^ 15
  pub long : HasLongPoints f

abbrev Place : List Ref → Type 0
Place refs = ByRecursion IsLow refs

single_low : (name : List ℕ) (turn : Turn) (at : Point) → IsNamed name → IsLongPoint at → IsLow (single name (motion_of turn at))
single_low name turn at n l =
    let still : IsLongPoint (stepped at 1 origin) = record { x = at_start at.x 1 l.x; y = at_start at.y 1 l.y } in
    record { cell = n; columns = omega arith; rows = omega arith; long = record { start = l; column_end = still; row_end = still } }

element_low : (start : ℕ) (name : List ℕ) (turn : Turn) (bytes : List ℕ) (columns rows : ℕ) → IsText name → AreLow columns rows
    → Place (refs_by start name (motion_of turn (first_of (points_of bytes))) columns rows (side bytes 8) (side bytes 16))
element_low start name turn bytes columns rows n low = by_test (start == SREF) (start == AREF) (is_empty name) refl
  where
    by_test : (s a none : Bool) → is_empty name ≡ none
        → Place (cond s (cond none [] (single name (motion_of turn (first_of (points_of bytes))) ∷ [])) (cond a (cond none [] (array name (motion_of turn (first_of (points_of bytes))) columns rows (side bytes 8) (side bytes 16) ∷ [])) []))
    by_test true a true e = tt
    by_test true a false e = (single_low name turn (first_of (points_of bytes)) record { text = n; named = e } (first_long bytes), tt)
    by_test false true true e = tt
    by_test false true false e = (record { cell = record { text = n; named = e }; columns = low.0; rows = low.1; long = record { start = first_long bytes; column_end = ends bytes 8 columns; row_end = ends bytes 16 rows } }, tt)
    by_test false false none e = tt

refs_joined : (xs ys : List Ref) → Place xs → Place ys → Place (xs ++ ys)
refs_joined [] ys f h = h
refs_joined (x ∷ xs) ys f h = (f.0, refs_joined xs ys f.1 h)

refs_more : (a b : Bool) (xs ys : List Ref) → Place xs → Place ys → Place (cond a [] (cond b (xs ++ ys) xs))
refs_more true b xs ys f h = tt
refs_more false true xs ys f h = refs_joined xs ys f h
refs_more false false xs ys f h = f

name_text : (rs : Records) → Passes rs → IsText (trimmed (text_part rs))
name_text rs p = trimmed_text (text_part rs) (found_bytes (λ k. k == STRING || k == SNAME) is_bound rs p) (found_short (λ k. k == STRING || k == SNAME) is_bound rs p)

-- a boundary and a path are no reference
line_places : (start : ℕ) (name : List ℕ) (m : Motion) (columns rows : ℕ) (a b : Point) → is_line start ≡ true → Place (refs_by start name m columns rows a b)
line_places start name m columns rows a b e = by_test (start == BOUNDARY) (start == PATH) refl refl e
  where
    by_test : (x y : Bool) → (start == BOUNDARY) ≡ x → (start == PATH) ≡ y → (x || y) ≡ true → Place (refs_by start name m columns rows a b)
    by_test true y f g h = let P : ℕ → Type 0 = λ k. Place (refs_by k name m columns rows a b) in subst P (sym (eqb-true _ _ f)) tt
    by_test false true f g h = let P : ℕ → Type 0 = λ k. Place (refs_by k name m columns rows a b) in subst P (sym (eqb-true _ _ g)) tt
    by_test false false f g h = absurd cc

record_more : (before : Records) (r : Rec) (b x : Bool) → is_bound r.kind ≡ b → (r.kind == XY) ≡ x → (is_bound r.kind ≡ false → is_line (opened before) ≡ false)
    → (is_bound r.kind ≡ false → open_points before ≡ points_of (part XY before))
    → cond b [] (cond x (gathered (opened before) (open_points before) (points_of r.body)) (open_points before)) ≡ points_of (cond x r.body (cond b [] (part XY before)))
record_more before r true true f g h i = let k : r.kind ≡ XY = eqb-true _ _ g in let bad : true ≡ false = sym f ∙ ap (λ (n : ℕ). is_bound n) k in absurd cc
record_more before r true false f g h i = refl
record_more before r false true f g h i = one_record (opened before) (open_points before) (points_of r.body) (h f)
record_more before r false false f g h i = i f

-- the points of another element are those of its record
open_record : (rs : Records) → is_line (opened rs) ≡ false → open_points rs ≡ points_of (part XY rs)
open_record NoRecords e = refl
open_record (before ▸ r) e =
    record_more before r (is_bound r.kind) (r.kind == XY) refl refl (λ f. ap (λ (n : ℕ). is_line n) (sym (opened_still before r f)) ∙ e)
    (λ f. open_record before (ap (λ (n : ℕ). is_line n) (sym (opened_still before r f)) ∙ e))

open_places : (rs : Records) → Passes rs → Place (open_refs rs)
open_places rs p = by_test (is_line (opened rs)) refl
  where
    turn : Turn
    turn = turn_of (is_mirrored rs) (quarters (part ANGLE rs))

    by_test : (b : Bool) → is_line (opened rs) ≡ b → Place (open_refs rs)
    by_test true e = line_places (opened rs) _ _ _ _ _ _ e
    by_test false e =
        let P : List Point → Type 0 = λ ps. Place (refs_by (opened rs) (trimmed (text_part rs)) (motion_of turn (first_of ps)) (columns_of rs) (rows_of rs) (side (part XY rs) 8) (side (part XY rs) 16)) in
        subst P (sym (open_record rs e)) (element_low (opened rs) (trimmed (text_part rs)) turn (part XY rs) (columns_of rs) (rows_of rs) (name_text rs p) (counts_low rs p))

refs_low : (rs : Records) → Passes rs → Place (refs_of rs)
refs_low NoRecords p = tt
refs_low (before ▸ r) p =
    refs_more (is_cell_bound r.kind) (r.kind == ENDEL) (refs_of before) (open_refs before) (refs_low before p.0)
    (open_places before p.0)

-- ---- cells

abbrev AreLowIn : Cell → Type 0
AreLowIn cell = All IsLow cell.refs

abbrev Each : List Cell → Type 0
Each cells = ByRecursion AreLowIn cells

cells_joined : (xs ys : List Cell) → Each xs → Each ys → Each (xs ++ ys)
cells_joined [] ys f h = h
cells_joined (x ∷ xs) ys f h = (f.0, cells_joined xs ys f.1 h)

one_cell : (none : Bool) (cell : Cell) → AreLowIn cell → Each (cond none [] (cell ∷ []))
one_cell true cell f = tt
one_cell false cell f = (f, tt)

cells_more : (b : Bool) (xs ys : List Cell) → Each xs → Each ys → Each (cond b (xs ++ ys) xs)
cells_more true xs ys f h = cells_joined xs ys f h
cells_more false xs ys f h = f

cells_low : (rs : Records) → Passes rs → Each (cells_of rs)
cells_low NoRecords p = tt
cells_low (before ▸ r) p =
    cells_more (r.kind == ENDSTR) (cells_of before) (open_cells before) (cells_low before p.0)
    (one_cell _ _ (All-from_recursion IsLow (refs_of before) (refs_low before p.0)))

low_law : (bytes : List ℕ) (library : Library) → Accepts bytes library → All AreLowIn library.cells
low_law bytes library (rs, rest, begins, ended, is) = subst (λ (v : Library). All AreLowIn v.cells) is (All-from_recursion AreLowIn (cells_of rs) (cells_low rs begins.passes))

pub law : PlaceableLaw → ReadReferencesLaw
law placeable bytes library accepted k d lt j f lt_ref =
    let low = low_law bytes library accepted k d lt j f lt_ref in
    let some = placeable library (bytes, accepted) k d lt j f lt_ref in
    record { cell = low.cell; columns = record { some = some.columns; fits = low.columns }; rows = record { some = some.rows; fits = low.rows }; long = low.long }
