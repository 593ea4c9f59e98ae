-- The shapes of accepted bytes can be filled.
use Rattle.std.proofs.Common.{◌≡◌, ◌⊎◌, inl, inr, ℕ, suc, ◌-◌, ◌<◌, ℤ, pos, negsuc, Bool, true, false, cond, List, [], ◌∷◌, ◌++◌, length, None, refl, sym, ap, subst, ◌∙◌, arith}
use Rattle.std.specs.Prelude.{◌==◌, ◌&&◌, ◌^◌, ◌%◌, not, nat_lt, nat_le, get_or, fold}
use Rattle.std.specs.Int.{w32, cast_signed, int_min, int_max}
use Rattle.std.specs.List.{All, AllByRecursion as ByRecursion}
use Rattle.std.proofs.lemmas.Int.{ints}
use Rattle.std.proofs.lemmas.Bool.{eqb-true, and_parts, or_parts}
use Rattle.std.proofs.lemmas.List.Elements.{All-from_recursion}
use Rattle.geo_base.specs.declared.shapes.Point.{Point}
use Rattle.geo_base.specs.declared.shapes.Rect.{Rect}
use Rattle.geo_base.specs.declared.layer.LayerKey.{LayerKey}
use Rattle.geo_base.specs.Near.{IsLong, IsLongPoint, IsLongRect}
use Rattle.geo_base.specs.Outlines.{IsClosed, last_from}
use Rattle.geo_base.specs.Rects.{bounding_box, rect_at, is_rect}
use Rattle.gds_records.specs.Records.{Rec, Records, NoRecords, ◌▸◌}
use Rattle.gds_records.specs.Kinds.{BOUNDARY, PATH, BOX, WIDTH, XY, ENDEL, ENDSTR, PATHTYPE, BGNEXTN, ENDEXTN}
use Rattle.gds_elements.specs.Bounds.{is_start, is_line, is_bound}
use Rattle.gds_elements.specs.Data.{number, coordinate, long, origin, points_of, first_of, last_of, is_closed, hull}
use Rattle.gds_elements.specs.Meaning.{Boundary, Path, Box, Shape, Cell, Library, opened, last_kind, columns_of, rows_of, part, is_cell_bound, key_of, half_of, beyond, box_form, shapes_by, gathered, open_shapes, open_points, shapes_of, open_cells, cells_of}
use Rattle.gds_elements.specs.Faults.{are_complete, outline_fault, points_fault, content_fault, Passes}
use Rattle.gds_elements.proofs.SamePoints.{same_point}
use Rattle.gds_elements.proofs.Lines.{xy_none}
use Rattle.gds_elements.proofs.Passing.{passed}
use Rattle.gds_elements.specs.Fillable.{IsFillable, AreFillable, FillableLaw}

-- ---- numbers of four bytes

signed_long : (n : ℕ) (b : Bool) → nat_lt n (2 ^ 31) ≡ b → IsLong (cond b (pos n) (negsuc (2 ^ 32 - suc n)))
signed_long n true e = record { low = omega (arith, ints); high = (let h : n < 2 ^ 31 = grind arith in omega (arith, ints, h)) }
signed_long n false e = record { low = (let h : (n < 2 ^ 31) → ⊥ = grind arith in omega (arith, ints, h)); high = omega (arith, ints) }

four_long : (n : ℕ) → IsLong (cast_signed w32 n)
four_long n = signed_long n (nat_lt n (2 ^ 31)) refl

zero_long : IsLong (pos 0)
zero_long = record { low = omega (arith, ints); high = omega (arith, ints) }

long_long : (bytes : List ℕ) → IsLong (long bytes)
long_long bytes = by_test (length bytes == 4)
  where
    by_test : (b : Bool) → IsLong (cond b (coordinate bytes 0) (pos 0))
    by_test true = four_long _
    by_test false = zero_long

-- ---- points

points_by : (bytes : List ℕ) → ByRecursion IsLongPoint (points_of bytes)
points_by [] = tt
points_by (a ∷ []) = tt
points_by (a ∷ b ∷ []) = tt
points_by (a ∷ b ∷ c ∷ []) = tt
points_by (a ∷ b ∷ c ∷ d ∷ []) = tt
points_by (a ∷ b ∷ c ∷ d ∷ e ∷ []) = tt
points_by (a ∷ b ∷ c ∷ d ∷ e ∷ f ∷ []) = tt
points_by (a ∷ b ∷ c ∷ d ∷ e ∷ f ∷ g ∷ []) = tt
points_by (a ∷ b ∷ c ∷ d ∷ e ∷ f ∷ g ∷ h ∷ rest) = (record { x = four_long _; y = four_long _ }, points_by rest)

last_is : (p : Point) (ps : List Point) → last_from p ps ≡ get_or (p ∷ ps) (length ps) origin
last_is p [] = refl
last_is p (q ∷ ps) = last_is q ps

closed : (ps : List Point) → is_closed ps ≡ true → IsClosed ps
closed [] h = tt
closed (p ∷ ps) h = last_is p ps ∙ ap (λ (n : ℕ). get_or (p ∷ ps) n origin) (omega arith) ∙ sym (same_point p (last_of (p ∷ ps)) h)

min_long : (a b : ℤ) → IsLong a → IsLong b → IsLong (int_min a b)
min_long a b f g = record { low = grind (arith, ints, f.low, g.low); high = grind (arith, ints, f.high, g.high) }

max_long : (a b : ℤ) → IsLong a → IsLong b → IsLong (int_max a b)
max_long a b f g = record { low = grind (arith, ints, f.low, g.low); high = grind (arith, ints, f.high, g.high) }

widened_long : (r : Rect) (ps : List Point) → IsLongRect r → ByRecursion IsLongPoint ps → IsLongRect (fold (λ r q. bounding_box r (rect_at q)) r ps)
widened_long r [] f h = f
widened_long r (p ∷ ps) f h =
    widened_long (bounding_box r (rect_at p)) ps
    (record { x1 = min_long _ _ f.x1 h.0.x; y1 = min_long _ _ f.y1 h.0.y; x2 = max_long _ _ f.x2 h.0.x; y2 = max_long _ _ f.y2 h.0.y }) h.1

first_long : (ps : List Point) → ByRecursion IsLongPoint ps → IsLongPoint (first_of ps)
first_long [] h = record { x = zero_long; y = zero_long }
first_long (p ∷ ps) h = h.0

hull_long : (ps : List Point) → ByRecursion IsLongPoint ps → IsLongRect (hull ps)
hull_long ps h = let f = first_long ps h in widened_long _ ps (record { x1 = f.x; y1 = f.y; x2 = f.x; y2 = f.y }) h

-- ---- the open element's points

outline_true : (fits : Bool) (points : List Point) → outline_fault fits points ≡ None → fits ≡ true
outline_true true points h = refl
outline_true false points h = cc

-- each of them is long
long_both : (xs ys : List Point) → ByRecursion IsLongPoint xs → ByRecursion IsLongPoint ys → ByRecursion IsLongPoint (xs ++ ys)
long_both [] ys f g = g
long_both (x ∷ xs) ys f g = (f.0, long_both xs ys f.1 g)

long_by : (bound xy line : Bool) (so_far points : List Point) → ByRecursion IsLongPoint so_far → ByRecursion IsLongPoint points
    → ByRecursion IsLongPoint (cond bound [] (cond xy (cond line (so_far ++ points) points) so_far))
long_by true xy line so_far points f g = tt
long_by false true true so_far points f g = long_both so_far points f g
long_by false true false so_far points f g = g
long_by false false line so_far points f g = f

open_long : (rs : Records) → ByRecursion IsLongPoint (open_points rs)
open_long NoRecords = tt
open_long (before ▸ r) = long_by (is_bound r.kind) (r.kind == XY) (is_line (opened before)) (open_points before) (points_of r.body) (open_long before) (points_by r.body)

-- a box's points are closed
abbrev IsOpenBox : ℕ → List Point → Type 0
IsOpenBox start points = start ≡ BOX → IsClosed points

box_closed : (whole : Bool) (so_far points : List Point) → points_fault BOX whole so_far points ≡ None → is_closed points ≡ true
box_closed whole so_far points h = (and_parts (whole && length points == 5) (is_closed points) (outline_true (whole && length points == 5 && is_closed points) points h)).1

xy_box : (start : ℕ) (so_far : List Point) (columns rows kind : ℕ) (body : List ℕ) → kind ≡ XY → content_fault start so_far columns rows kind body ≡ None → IsOpenBox start (gathered start so_far (points_of body))
xy_box start so_far columns rows kind body e h is =
    let f = xy_none start so_far columns rows kind body e h in
    let c = closed (points_of body) (box_closed ((length body % 8) == 0) so_far (points_of body) (subst (λ (k : ℕ). points_fault k ((length body % 8) == 0) so_far (points_of body) ≡ None) is f)) in
    subst (λ (k : ℕ). IsClosed (gathered k so_far (points_of body))) (sym is) c

-- by the last record: it is a bound, or has points, or is another
box_by : (bound xy start end : Bool) (kind old : ℕ) (points so_far : List Point) → (bound ≡ false → (start ≡ false) × (end ≡ false))
    → (xy ≡ true → IsOpenBox old points) → IsOpenBox old so_far
    → IsOpenBox (cond start kind (cond end 0 old)) (cond bound [] (cond xy points so_far))
box_by true xy start end kind old points so_far g h i = λ _. tt
box_by false true start end kind old points so_far g h i =
    let e = g refl in subst (λ (s : ℕ). IsOpenBox s points) (sym (ap (λ (b : Bool). cond b kind (cond end 0 old)) e.0 ∙ ap (λ (b : Bool). cond b 0 old) e.1)) (h refl)
box_by false false start end kind old points so_far g h i =
    let e = g refl in subst (λ (s : ℕ). IsOpenBox s so_far) (sym (ap (λ (b : Bool). cond b kind (cond end 0 old)) e.0 ∙ ap (λ (b : Bool). cond b 0 old) e.1)) i

open_box : (rs : Records) → Passes rs → IsOpenBox (opened rs) (open_points rs)
open_box NoRecords p = λ _. tt
open_box (before ▸ r) p =
    box_by (is_bound r.kind) (r.kind == XY) (is_start r.kind) (r.kind == ENDEL) r.kind (opened before) (gathered (opened before) (open_points before) (points_of r.body)) (open_points before) (or_parts (is_start r.kind) (r.kind == ENDEL))
    (λ e. xy_box (opened before) (open_points before) (columns_of before) (rows_of before) r.kind r.body (eqb-true _ _ e) (passed before r p.2).sound) (open_box before p.0)

-- a boundary's points are closed where no more of them may come
abbrev IsOver : Bool → Bool → Type 0
IsOver xy outline = (xy ≡ false) ⊎ (outline ≡ true)

over : (last xy outline : Bool) → ((last && not xy) && not outline) ≡ false → xy ≡ false → IsOver last outline
over false xy outline h e = inl refl
over true true outline h e = absurd cc
over true false true h e = inr refl
over true false false h e = absurd cc

outline_closed : (start : ℕ) (points : List Point) → start ≡ BOUNDARY → are_complete start points ≡ true → IsClosed points
outline_closed start points e h = closed points ((and_parts (nat_le 4 (length points)) (is_closed points) (subst (λ (k : ℕ). are_complete k points ≡ true) e h)).1)

boundary_by : (bound xy start end : Bool) (kind old : ℕ) (points so_far : List Point) → (bound ≡ false → (start ≡ false) × (end ≡ false))
    → (xy ≡ false → old ≡ BOUNDARY → IsClosed so_far) → xy ≡ false → cond start kind (cond end 0 old) ≡ BOUNDARY → IsClosed (cond bound [] (cond xy points so_far))
boundary_by true xy start end kind old points so_far g h none is = tt
boundary_by false true start end kind old points so_far g h none is = absurd cc
boundary_by false false start end kind old points so_far g h none is =
    let e = g refl in h refl (sym (ap (λ (b : Bool). cond b kind (cond end 0 old)) e.0 ∙ ap (λ (b : Bool). cond b 0 old) e.1) ∙ is)

open_boundary : (rs : Records) → Passes rs → opened rs ≡ BOUNDARY → IsOver (last_kind rs == XY) (are_complete (opened rs) (open_points rs)) → IsClosed (open_points rs)
open_boundary rs p is (inr outline) = outline_closed (opened rs) (open_points rs) is outline
open_boundary NoRecords p is (inl none) = tt
open_boundary (before ▸ r) p is (inl none) =
    boundary_by (is_bound r.kind) (r.kind == XY) (is_start r.kind) (r.kind == ENDEL) r.kind (opened before) (gathered (opened before) (open_points before) (points_of r.body)) (open_points before) (or_parts (is_start r.kind) (r.kind == ENDEL))
    (λ e was. open_boundary before p.0 was (over (last_kind before == XY) (r.kind == XY) (are_complete (opened before) (open_points before)) (passed before r p.2).finished e)) none is

-- at an element's end a boundary's and a box's points are closed
abbrev IsOpenOutline : ℕ → List Point → Type 0
IsOpenOutline start points = (start ≡ BOUNDARY → IsClosed points) × (start ≡ BOX → IsClosed points)

ended_outline : (before : Records) (r : Rec) → Passes (before ▸ r) → r.kind ≡ ENDEL → IsOpenOutline (opened before) (open_points before)
ended_outline before r p e =
    let other : (r.kind == XY) ≡ false = ap (λ (k : ℕ). k == XY) e in (
      λ is. open_boundary before p.0 is (over (last_kind before == XY) (r.kind == XY) (are_complete (opened before) (open_points before)) (passed before r p.2).finished other),
      open_box before p.0,
    )

-- ---- shapes

half_long : (width : ℤ) → IsLong width → IsLong (half_of width)
half_long width h = record { low = omega (arith, ints, h.low, h.high); high = omega (arith, ints, h.low, h.high) }

beyond_long : (path_type : ℕ) (half extension : ℤ) → IsLong half → IsLong extension → IsLong (beyond path_type half extension)
beyond_long path_type half extension h g = by_test (path_type == 2) (path_type == 4)
  where
    by_test : (a b : Bool) → IsLong (cond a half (cond b extension (pos 0)))
    by_test true b = h
    by_test false true = g
    by_test false false = zero_long

box_fillable : (points : List Point) → IsClosed points → ByRecursion IsLongPoint points → IsFillable (box_form points)
box_fillable points c h = by_test (is_rect (hull points))
  where
    by_test : (b : Bool) → IsFillable (cond b (Box (hull points)) (Boundary points))
    by_test true = hull_long points h
    by_test false = record { closed = c; points_long = All-from_recursion IsLongPoint points h }

abbrev Fills : List Shape → Type 0
Fills shapes = ByRecursion (λ (shape : Shape). IsFillable shape.form) shapes

element_fillable : (start : ℕ) (key : LayerKey) (path_type : ℕ) (width begin end : ℤ) (points : List Point) → IsLong width → IsLong begin → IsLong end → ByRecursion IsLongPoint points → IsOpenOutline start points
    → Fills (shapes_by start key path_type width begin end points)
element_fillable start key path_type width begin end points w b e long outline = by_test (start == BOUNDARY) (start == PATH) (start == BOX) refl refl
  where
    all : All IsLongPoint points
    all = All-from_recursion IsLongPoint points long

    by_test : (x y z : Bool) → (start == BOUNDARY) ≡ x → (start == BOX) ≡ z
        → Fills (cond x (record { key = key; form = Boundary points } ∷ []) (cond y (record { key = key; form = Path points (half_of width) (beyond path_type (half_of width) begin) (beyond path_type (half_of width) end) } ∷ [])
        (cond z (record { key = key; form = box_form points } ∷ []) [])))
    by_test true y z f g = (record { closed = outline.0 (eqb-true _ _ f); points_long = all }, tt)
    by_test false true z f g =
        let h = half_long width w in
        (record { points_long = all; half_long = h; begin_long = beyond_long path_type (half_of width) begin h b; end_long = beyond_long path_type (half_of width) end h e }, tt)
    by_test false false true f g = (box_fillable points (outline.1 (eqb-true _ _ g)) long, tt)
    by_test false false false f g = tt

joined : (xs ys : List Shape) → Fills xs → Fills ys → Fills (xs ++ ys)
joined [] ys f g = g
joined (x ∷ xs) ys f g = (f.0, joined xs ys f.1 g)

open_fillable : (before : Records) (r : Rec) → Passes (before ▸ r) → r.kind ≡ ENDEL → Fills (open_shapes before)
open_fillable rs r p e =
    element_fillable (opened rs) (key_of rs) (number (part PATHTYPE rs)) (long (part WIDTH rs)) (long (part BGNEXTN rs)) (long (part ENDEXTN rs)) (open_points rs)
    (long_long (part WIDTH rs)) (long_long (part BGNEXTN rs)) (long_long (part ENDEXTN rs)) (open_long rs) (ended_outline rs r p e)

shapes_more : (a b : Bool) (xs ys : List Shape) → Fills xs → (b ≡ true → Fills ys) → Fills (cond a [] (cond b (xs ++ ys) xs))
shapes_more true b xs ys f g = tt
shapes_more false true xs ys f g = joined xs ys f (g refl)
shapes_more false false xs ys f g = f

shapes_fillable : (rs : Records) → Passes rs → Fills (shapes_of rs)
shapes_fillable NoRecords p = tt
shapes_fillable (before ▸ r) p =
    shapes_more (is_cell_bound r.kind) (r.kind == ENDEL) (shapes_of before) (open_shapes before) (shapes_fillable before p.0) (λ e. open_fillable before r p (eqb-true _ _ e))

-- ---- cells

abbrev pub Each : List Cell → Type 0
Each cells = ByRecursion AreFillable cells

cells_joined : (xs ys : List Cell) → Each xs → Each ys → Each (xs ++ ys)
cells_joined [] ys f g = g
cells_joined (x ∷ xs) ys f g = (f.0, cells_joined xs ys f.1 g)

one_cell : (none : Bool) (cell : Cell) → AreFillable cell → Each (cond none [] (cell ∷ []))
one_cell true cell f = tt
one_cell false cell f = (f, tt)

open_cell : (rs : Records) → Passes rs → Each (open_cells rs)
open_cell rs p = one_cell _ _ (All-from_recursion (λ (shape : Shape). IsFillable shape.form) (shapes_of rs) (shapes_fillable rs p))

cells_more : (b : Bool) (xs ys : List Cell) → Each xs → Each ys → Each (cond b (xs ++ ys) xs)
cells_more true xs ys f g = cells_joined xs ys f g
cells_more false xs ys f g = f

pub cells_fillable : (rs : Records) → Passes rs → Each (cells_of rs)
cells_fillable NoRecords p = tt
cells_fillable (before ▸ r) p = cells_more (r.kind == ENDSTR) (cells_of before) (open_cells before) (cells_fillable before p.0) (open_cell before p.0)

last_of_each : (xs ys : List Cell) → Each (xs ++ ys) → Each ys
last_of_each [] ys f = f
last_of_each (x ∷ xs) ys f = last_of_each xs ys f.1

-- the last cells behind some
pub last_fillable : (rs : Records) (xs ys : List Cell) → Passes rs → xs ++ ys ≡ cells_of rs → All AreFillable ys
last_fillable rs xs ys p e = All-from_recursion AreFillable ys (last_of_each xs ys (subst (λ (cs : List Cell). Each cs) (sym e) (cells_fillable rs p)))

pub fillable_law : FillableLaw
fillable_law library (bytes, (rs, rest, begins, ended, is)) =
    subst (λ (v : Library). All AreFillable v.cells) is (All-from_recursion AreFillable (cells_of rs) (cells_fillable rs begins.passes))
