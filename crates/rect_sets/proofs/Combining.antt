-- The edges of rectangles.
use Rattle.std.proofs.Common.{◌≡◌, ℕ, ℤ, pos, suc, zero, ◌+ℤ◌, ◌-ℤ◌, ◌≤ℤ◌, ◌<ℤ◌, ◌<◌, ◌+◌, ◌*◌, List, [], ◌∷◌, ◌++◌, Bool, true, false, ◌&&◌, ◌||◌, length, take, refl, sym, ◌∙◌, ap, ap₂, arith, get_or, append_assoc, int_le, if◌then◌else◌}
use Rattle.std.proofs.lemmas.Int.{ints, by_lt_z}
use Rattle.std.proofs.lemmas.List.{take_more}
use Rattle.std.specs.List.{All}
use Rattle.geo_base.specs.Rects.{is_between, has, IsRect}
use Rattle.rect_sets.specs.Rects.{covers}
use Rattle.rect_sets.specs.Edges.{is_some, first_of, second_of, sum_where, crosses, acts_on, weight, total, set_of, IsBalanced, IsEdge}
use Rattle.rect_sets.specs.Sweeps.{AreBlocks}
use Rattle.geo_base.specs.Layers.{combined}
use Rattle.rect_sets.specs.Combined.{left_of, right_of, edges_of, combined_set}
use Rattle.rect_sets.proofs.Unique.{block_of}
use Rattle.geo_base.specs.declared.shapes.Rect.{Rect}
use Rattle.geo_base.specs.declared.shapes.Square.{Square}
use Rattle.rect_sets.specs.declared.row.Edge.{Edge}
use Rattle.geo_base.specs.declared.layer.Op.{Op}

edges_push : (f g : ℤ) (xs : List Rect) (r : Rect) → edges_of f g (xs ++ r ∷ []) ≡ edges_of f g xs ++ (left_of f g r ∷ right_of f g r ∷ [])
edges_push f g [] r = refl
edges_push f g (x ∷ xs) r = ap (λ (q : List Edge). left_of f g x ∷ right_of f g x ∷ q) (edges_push f g xs r)

pub edges_more : (f g : ℤ) (rects : List Rect) (i : ℕ) (d : Rect) (old out : List Edge) → i < length rects → out ≡ old ++ edges_of f g (take i rects) → ((out ++ left_of f g (get_or rects i d) ∷ []) ++ right_of f g (get_or rects i d) ∷ []) ≡ old ++ edges_of f g (take (i + 1) rects)
edges_more f g rects i d old out lt e =
    let l = left_of f g (get_or rects i d) in let r = right_of f g (get_or rects i d) in
    append_assoc out (l ∷ []) (r ∷ []) ∙ ap (λ (q : List Edge). q ++ (l ∷ r ∷ [])) e ∙ append_assoc old (edges_of f g (take i rects)) (l ∷ r ∷ []) ∙
    ap (λ (q : List Edge). old ++ q) (sym (edges_push f g (take i rects) (get_or rects i d)) ∙ ap (edges_of f g) (sym (take_more rects i d lt)))

pub sum_append : (test : Edge → Bool) (field : Edge → ℤ) (xs ys : List Edge) → sum_where test field (xs ++ ys) ≡ sum_where test field xs +ℤ sum_where test field ys
sum_append test field [] ys = omega (arith, ints)
sum_append test field (x ∷ xs) ys = let r = sum_append test field xs ys in omega (arith, ints, r)

-- one rectangle
pair_sum : (w x1 x2 x : ℤ) (c : Bool) → x1 <ℤ x2 → ((if (c && int_le x1 x) then w else pos 0) +ℤ (if (c && int_le x2 x) then (pos 0 -ℤ w) else pos 0)) ≡ (if (is_between x1 x x2 && c) then w else pos 0)
pair_sum w x1 x2 x true lt = by_lt_z x x1
    (λ a. grind (arith, ints))
    (λ a. by_lt_z x x2 (λ b. grind (arith, ints)) (λ b. grind (arith, ints)))
pair_sum w x1 x2 x false lt = by_lt_z x x1
    (λ a. grind (arith, ints))
    (λ a. by_lt_z x x2 (λ b. grind (arith, ints)) (λ b. grind (arith, ints)))

abbrev count : ℤ → List Rect → Square → ℤ
count w [] s = pos 0
count w (r ∷ rects) s = (if has r s then w else pos 0) +ℤ count w rects s

tail_rects : (r : Rect) (rects : List Rect) → All IsRect (r ∷ rects) → All IsRect rects
tail_rects r rects h = λ k d lt. h (suc k) d (omega arith)

first_sum : (f g : ℤ) (rects : List Rect) (s : Square) → All IsRect rects → sum_where (acts_on s) first_of (edges_of f g rects) ≡ count f rects s
first_sum f g [] s h = refl
first_sum f g (r ∷ rects) s h =
    let own : IsRect r = h 0 r (omega arith) in
    let p = pair_sum f r.x1 r.x2 s.x (is_between r.y1 s.y r.y2) own.wide in
    let rest = first_sum f g rects s (tail_rects r rects h) in
    omega (arith, ints, p, rest)

second_sum : (f g : ℤ) (rects : List Rect) (s : Square) → All IsRect rects → sum_where (acts_on s) second_of (edges_of f g rects) ≡ count g rects s
second_sum f g [] s h = refl
second_sum f g (r ∷ rects) s h =
    let own : IsRect r = h 0 r (omega arith) in
    let p = pair_sum g r.x1 r.x2 s.x (is_between r.y1 s.y r.y2) own.wide in
    let rest = second_sum f g rects s (tail_rects r rects h) in
    omega (arith, ints, p, rest)

count_none : (rects : List Rect) (s : Square) → count (pos 0) rects s ≡ pos 0
count_none [] s = refl
count_none (r ∷ rects) s = let h = count_none rects s in let k = none (has r s) in omega (arith, ints, h, k)
  where
    none : (b : Bool) → (if b then pos 0 else pos 0) ≡ pos 0
    none true = refl
    none false = refl

-- the count isn't 0 exactly where some rectangle has the square
count_low : (rects : List Rect) (s : Square) → pos 0 ≤ℤ count (pos 1) rects s
count_low [] s = omega (arith, ints)
count_low (r ∷ rects) s = let h = count_low rects s in let k = low (has r s) in omega (arith, ints, h, k)
  where
    low : (b : Bool) → pos 0 ≤ℤ (if b then pos 1 else pos 0)
    low true = omega (arith, ints)
    low false = omega (arith, ints)

count_covers : (rects : List Rect) (s : Square) → is_some (count (pos 1) rects s) ≡ covers rects s
count_covers [] s = refl
count_covers (r ∷ rects) s = step (has r s) (count (pos 1) rects s) (covers rects s) (count_low rects s) (count_covers rects s)
  where
    more : (n : ℤ) → pos 0 ≤ℤ n → is_some (pos 1 +ℤ n) ≡ true
    more n h = grind (arith, ints)

    step : (b : Bool) (n : ℤ) (c : Bool) → pos 0 ≤ℤ n → is_some n ≡ c → is_some ((if b then pos 1 else pos 0) +ℤ n) ≡ (b || c)
    step true n c h e = more n h
    step false n c h e = let z : pos 0 +ℤ n ≡ n = omega (arith, ints) in ap is_some z ∙ e

pub set_both : (op : Op) (a b : List Rect) (s : Square) → All IsRect a → All IsRect b → set_of op (edges_of (pos 1) (pos 0) a ++ edges_of (pos 0) (pos 1) b) s ≡ combined_set op a b s
set_both op a b s ha hb =
    let f1 = first_sum (pos 1) (pos 0) a s ha in
    let f2 = first_sum (pos 0) (pos 1) b s hb in
    let g1 = second_sum (pos 1) (pos 0) a s ha in
    let g2 = second_sum (pos 0) (pos 1) b s hb in
    let za = count_none a s in
    let zb = count_none b s in
    let fa = sum_append (acts_on s) first_of (edges_of (pos 1) (pos 0) a) (edges_of (pos 0) (pos 1) b) in
    let ga = sum_append (acts_on s) second_of (edges_of (pos 1) (pos 0) a) (edges_of (pos 0) (pos 1) b) in
    let first : weight first_of (edges_of (pos 1) (pos 0) a ++ edges_of (pos 0) (pos 1) b) s ≡ count (pos 1) a s = omega (arith, ints, f1, f2, za, zb, fa) in
    let second : weight second_of (edges_of (pos 1) (pos 0) a ++ edges_of (pos 0) (pos 1) b) s ≡ count (pos 1) b s = omega (arith, ints, g1, g2, za, zb, ga) in
    ap₂ (combined op) (ap is_some first ∙ count_covers a s) (ap is_some second ∙ count_covers b s)

pub blocks_both : (op : Op) (a b : List Rect) (rects : List Rect) → All IsRect a → All IsRect b → AreBlocks (set_of op (edges_of (pos 1) (pos 0) a ++ edges_of (pos 0) (pos 1) b)) rects → AreBlocks (combined_set op a b) rects
blocks_both op a b rects ha hb h =
    let set : Square → Bool = set_of op (edges_of (pos 1) (pos 0) a ++ edges_of (pos 0) (pos 1) b) in
    record {
      each = λ r. (λ l. block_of set (combined_set op a b) r (λ s. set_both op a b s ha hb) ((h.each r).0 l), λ k. (h.each r).1 (block_of (combined_set op a b) set r (λ s. sym (set_both op a b s ha hb)) k));
      same = λ s. h.same s ∙ set_both op a b s ha hb;
    }

-- conditions of the sweep

row_zero : (w : ℤ) (c : Bool) → ((if c then w else pos 0) +ℤ (if c then (pos 0 -ℤ w) else pos 0)) ≡ pos 0
row_zero w true = omega (arith, ints)
row_zero w false = omega (arith, ints)

first_total : (f g : ℤ) (rects : List Rect) (row : ℤ) → total first_of (edges_of f g rects) row ≡ pos 0
first_total f g [] row = refl
first_total f g (r ∷ rects) row = let z = row_zero f (is_between r.y1 row r.y2) in let h = first_total f g rects row in omega (arith, ints, z, h)

second_total : (f g : ℤ) (rects : List Rect) (row : ℤ) → total second_of (edges_of f g rects) row ≡ pos 0
second_total f g [] row = refl
second_total f g (r ∷ rects) row = let z = row_zero g (is_between r.y1 row r.y2) in let h = second_total f g rects row in omega (arith, ints, z, h)

pub balanced_both : (a b : List Rect) → IsBalanced (edges_of (pos 1) (pos 0) a ++ edges_of (pos 0) (pos 1) b)
balanced_both a b = record {
  first = λ row. let s = sum_append (crosses row) first_of (edges_of (pos 1) (pos 0) a) (edges_of (pos 0) (pos 1) b) in let x = first_total (pos 1) (pos 0) a row in let y = first_total (pos 0) (pos 1) b row in omega (arith, ints, s, x, y);
  second = λ row. let s = sum_append (crosses row) second_of (edges_of (pos 1) (pos 0) a) (edges_of (pos 0) (pos 1) b) in let x = second_total (pos 1) (pos 0) a row in let y = second_total (pos 0) (pos 1) b row in omega (arith, ints, s, x, y);
}

length_edges : (f g : ℤ) (rects : List Rect) → length (edges_of f g rects) ≡ 2 * length rects
length_edges f g [] = refl
length_edges f g (r ∷ rects) = let h = length_edges f g rects in omega arith

length_join : (xs ys : List Edge) → length (xs ++ ys) ≡ length xs + length ys
length_join [] ys = omega arith
length_join (x ∷ xs) ys = let h = length_join xs ys in omega arith

pub length_both : (a b : List Rect) → length (edges_of (pos 1) (pos 0) a ++ edges_of (pos 0) (pos 1) b) ≡ 2 * (length a + length b)
length_both a b = let h = length_join (edges_of (pos 1) (pos 0) a) (edges_of (pos 0) (pos 1) b) in let x = length_edges (pos 1) (pos 0) a in let y = length_edges (pos 0) (pos 1) b in omega arith

edges_are : (f g : ℤ) (rects : List Rect) → All IsRect rects → All IsEdge (edges_of f g rects)
edges_are f g [] h = λ k d lt. absurd (omega arith)
edges_are f g (r ∷ rects) h =
    let own : IsRect r = h 0 r (omega arith) in
    two (left_of f g r) (right_of f g r) (edges_of f g rects) (record { some = own.high }) (record { some = own.high }) (edges_are f g rects (tail_rects r rects h))
  where
    two : (p q : Edge) (xs : List Edge) → IsEdge p → IsEdge q → All IsEdge xs → All IsEdge (p ∷ q ∷ xs)
    two p q xs hp hq h zero d lt = hp
    two p q xs hp hq h (suc zero) d lt = hq
    two p q xs hp hq h (suc (suc k)) d lt = h k d (omega arith)

join_all : (xs ys : List Edge) → All IsEdge xs → All IsEdge ys → All IsEdge (xs ++ ys)
join_all [] ys hx hy = hy
join_all (x ∷ xs) ys hx hy = at_each x (xs ++ ys) (hx 0 x (omega arith)) (join_all xs ys (λ k d lt. hx (suc k) d (omega arith)) hy)
  where
    at_each : (x : Edge) (xs : List Edge) → IsEdge x → All IsEdge xs → All IsEdge (x ∷ xs)
    at_each x xs h g zero d lt = h
    at_each x xs h g (suc k) d lt = g k d (omega arith)

pub edges_both : (a b : List Rect) → All IsRect a → All IsRect b → All IsEdge (edges_of (pos 1) (pos 0) a ++ edges_of (pos 0) (pos 1) b)
edges_both a b ha hb = join_all _ _ (edges_are (pos 1) (pos 0) a ha) (edges_are (pos 0) (pos 1) b hb)
