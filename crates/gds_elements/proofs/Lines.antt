-- Points gathered over records: no edge of a boundary or a path that passes is slanted.
use Rattle.std.proofs.Common.{◌≡◌, ℕ, Bool, true, false, cond, List, [], ◌∷◌, ◌++◌, length, Option, Some, None, refl, sym, ap, subst, ◌∙◌, arith}
use Rattle.std.specs.Prelude.{◌==◌, ◌&&◌, ◌||◌, ◌%◌, ◌+◌, not, nat_le, nat_lt, get_or}
use Rattle.std.proofs.lemmas.Bool.{eqb-true, and_parts, or_parts}
use Rattle.std.proofs.lemmas.List.{append-nil}
use Rattle.geo_base.specs.declared.shapes.Point.{Point}
use Rattle.geo_base.specs.Outlines.{last_from}
use Rattle.gds_records.specs.Records.{Records, NoRecords, ◌▸◌}
use Rattle.gds_records.specs.Kinds.{SREF, AREF, TEXT, BOX, XY, ENDEL}
use Rattle.gds_elements.specs.Bounds.{is_start, is_line, is_bound}
use Rattle.gds_elements.specs.Data.{first_of, is_closed, is_level, is_straight, last_of, points_of, origin}
use Rattle.gds_elements.specs.Meaning.{opened, open_points, gathered, columns_of, rows_of}
use Rattle.gds_elements.specs.Faults.{Passes, array_fault, content_fault, line_fault, outline_fault, points_fault, or_else}
use Rattle.gds_elements.proofs.Passing.{passed}

-- points behind a straight line
pub straight_on : (p q : Point) (xs ys : List Point) → is_straight (p ∷ xs) ≡ true → is_straight ((p ∷ xs) ++ q ∷ ys) ≡ (is_level (last_from p xs) q && is_straight (q ∷ ys))
straight_on p q [] ys h = refl
straight_on p q (x ∷ xs) ys h =
    let both = and_parts (is_level p x) (is_straight (x ∷ xs)) h in
    ap (λ (b : Bool). b && is_straight ((x ∷ xs) ++ q ∷ ys)) both.0 ∙ straight_on x q xs ys both.1

last_is : (p : Point) (ps : List Point) → last_from p ps ≡ get_or (p ∷ ps) (length ps) origin
last_is p [] = refl
last_is p (q ∷ ps) = last_is q ps

last_from_of : (p : Point) (ps : List Point) → last_from p ps ≡ last_of (p ∷ ps)
last_from_of p ps = last_is p ps ∙ ap (λ (n : ℕ). get_or (p ∷ ps) n origin) (omega arith)

pub none_before : (before points : List Point) → (length before == 0) ≡ true → is_straight points ≡ is_straight (before ++ points)
none_before [] points e = refl
none_before (p ∷ ps) points e = let z = eqb-true (length (p ∷ ps)) 0 e in absurd (omega (arith, z))

pub none_behind : (before points : List Point) → (length points == 0) ≡ true → is_straight before ≡ true → true ≡ is_straight (before ++ points)
none_behind before [] e h = sym (ap is_straight (append-nil before) ∙ h)
none_behind before (q ∷ qs) e h = let z = eqb-true (length (q ∷ qs)) 0 e in absurd (omega (arith, z))

pub some_both : (before points : List Point) → (length before == 0) ≡ false → (length points == 0) ≡ false → is_straight before ≡ true
    → is_straight (before ++ points) ≡ (is_level (last_of before) (first_of points) && is_straight points)
some_both [] points e f h = absurd cc
some_both (p ∷ ps) [] e f h = absurd cc
some_both (p ∷ ps) (q ∷ qs) e f h = straight_on p q ps qs h ∙ ap (λ (r : Point). is_level r q && is_straight (q ∷ qs)) (last_from_of p ps)

-- ---- a record of points

line_straight : (whole : Bool) (so_far points : List Point) → line_fault whole so_far points ≡ None → is_straight (so_far ++ points) ≡ true
line_straight whole so_far points h = by (whole && nat_le 1 (length points)) (nat_lt 1000000 (length so_far + length points)) (is_straight (so_far ++ points)) h
  where
    by : (a b c : Bool) → cond {A = Option ℕ} (not a) (Some 5) (cond {A = Option ℕ} b (Some 14) (cond {A = Option ℕ} c None (Some 6))) ≡ None → c ≡ true
    by false b c h = absurd cc
    by true true c h = absurd cc
    by true false true h = refl
    by true false false h = absurd cc

first_none : (a b : Option ℕ) → or_else a b ≡ None → a ≡ None
first_none None b h = refl
first_none (Some n) b h = absurd cc

pub xy_none : (start : ℕ) (so_far : List Point) (columns rows kind : ℕ) (body : List ℕ) → kind ≡ XY → content_fault start so_far columns rows kind body ≡ None → points_fault start ((length body % 8) == 0) so_far (points_of body) ≡ None
xy_none start so_far columns rows kind body e h =
    first_none _ (array_fault start columns rows body) (subst (λ (k : ℕ). content_fault start so_far columns rows k body ≡ None) e h)

-- ---- the points so far

abbrev IsStraightLine : ℕ → List Point → Type 0
IsStraightLine start points = is_line start ≡ true → is_straight points ≡ true

gathers : (start : ℕ) (whole : Bool) (so_far points : List Point) → points_fault start whole so_far points ≡ None → IsStraightLine start (gathered start so_far points)
gathers start whole so_far points h line =
    let f : line_fault whole so_far points ≡ None = by_line (is_line start) (line_fault whole so_far points) others line h in
    ap (λ (b : Bool). is_straight (cond b (so_far ++ points) points)) line ∙ line_straight whole so_far points f
  where
    others : Option ℕ
    others = cond (start == BOX) (outline_fault (whole && length points == 5 && is_closed points) points)
        (cond (start == SREF || start == TEXT) (cond (whole && length points == 1) None (Some 5))
        (cond (start == AREF) (cond (whole && length points == 3) None (Some 5)) (cond (whole && nat_le 1 (length points)) None (Some 5))))

    by_line : (b : Bool) (x y : Option ℕ) → b ≡ true → cond b x y ≡ None → x ≡ None
    by_line true x y e g = g
    by_line false x y e g = absurd cc

straight_by : (bound xy start end : Bool) (kind old : ℕ) (so_far points : List Point) → (bound ≡ false → (start ≡ false) × (end ≡ false))
    → (xy ≡ true → IsStraightLine old points) → IsStraightLine old so_far
    → IsStraightLine (cond start kind (cond end 0 old)) (cond bound [] (cond xy points so_far))
straight_by true xy start end kind old so_far points g h i = λ line. refl
straight_by false true start end kind old so_far points g h i =
    let e = g refl in subst (λ (s : ℕ). IsStraightLine s points) (sym (ap (λ (b : Bool). cond b kind (cond end 0 old)) e.0 ∙ ap (λ (b : Bool). cond b 0 old) e.1)) (h refl)
straight_by false false start end kind old so_far points g h i =
    let e = g refl in subst (λ (s : ℕ). IsStraightLine s so_far) (sym (ap (λ (b : Bool). cond b kind (cond end 0 old)) e.0 ∙ ap (λ (b : Bool). cond b 0 old) e.1)) i

pub straight : (rs : Records) → Passes rs → is_line (opened rs) ≡ true → is_straight (open_points rs) ≡ true
straight NoRecords p = λ line. refl
straight (before ▸ r) p =
    straight_by (is_bound r.kind) (r.kind == XY) (is_start r.kind) (r.kind == ENDEL) r.kind (opened before) (open_points before) (gathered (opened before) (open_points before) (points_of r.body))
    (or_parts (is_start r.kind) (r.kind == ENDEL))
    (λ e. gathers (opened before) ((length r.body % 8) == 0) (open_points before) (points_of r.body)
    (xy_none (opened before) (open_points before) (columns_of before) (rows_of before) r.kind r.body (eqb-true _ _ e) (passed before r p.2).sound))
    (straight before p.0)
