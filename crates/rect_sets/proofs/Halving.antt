-- Edges cut in two.
use Rattle.std.proofs.Common.{◌≡◌, ℕ, suc, ℤ, pos, ◌+ℤ◌, ◌≤ℤ◌, ◌<ℤ◌, ◌<◌, ◌+◌, List, [], ◌∷◌, ◌++◌, Bool, true, false, ◌&&◌, length, take, get_or, refl, sym, ◌∙◌, ap, subst, arith, int_le, int_lt, if◌then◌else◌}
use Rattle.base_laws.proofs.Tests.{if_true, if_false, lt_to, le_to}
use Rattle.std.proofs.lemmas.Bool.{and_right}
use Rattle.std.proofs.lemmas.Int.{ints, by_lt_z}
use Rattle.std.proofs.lemmas.List.{take_more, take_all}
use Rattle.std.proofs.lemmas.List.Elements.{All-nil, All-cons, All-append}
use Rattle.std.specs.List.{All}
use Rattle.geo_base.specs.Rects.{is_between}
use Rattle.geo_base.specs.declared.shapes.Square.{Square}
use Rattle.rect_sets.specs.Edges.{first_of, second_of, sum_where, crosses, acts_on, weight, total, holds, set_of, IsEdge, IsBalanced}
use Rattle.rect_sets.specs.EdgeCuts.{in_rows, edges_below, edges_above, edges_left, edges_right, upright_at, AreSides}
use Rattle.rect_sets.specs.Sums.{AreSums}
use Rattle.rect_sets.specs.declared.cuts.Axis.TheVariants.{Y}
use Rattle.rect_sets.specs.declared.row.Edge.{Edge}
use Rattle.geo_base.specs.declared.layer.Op.{Op}
use Rattle.rect_sets.proofs.Combining.{sum_append}
use Rattle.rect_sets.proofs.Dividing.{lt_false, le_false, low_between, high_between, and_one, less_than_least, most_less_than}
use Rattle.rect_sets.proofs.RowRuns.{same_holds, no_weights}

tail_of : (P : Edge → Type 0) (e : Edge) (es : List Edge) → All P (e ∷ es) → All P es
tail_of P e es h = λ k d lt. h (suc k) d (omega arith)

-- one more edge on both sides of an equation
both : (b c : Bool) (v w r s : ℤ) → b ≡ c → v ≡ w → r ≡ s → ((if b then v else pos 0) +ℤ r) ≡ ((if c then w else pos 0) +ℤ s)
both b c v w r s e f g = cc

one : (b : Bool) (v r s : ℤ) → b ≡ false → r ≡ s → r ≡ ((if b then v else pos 0) +ℤ s)
one true v r s e g = absurd (let f : true ≡ false = e in cc)
one false v r s e g = omega (arith, ints, g)

-- a test of where an edge lies in a row, which all edges pass or not that cross the row or don't
record IsRowTest (row : ℤ) (test : Edge → Bool) : Type 0 where
  same : (e : Edge) (a b : ℤ) → is_between a row b ≡ crosses row e → test (in_rows e a b) ≡ test e
  none : (e : Edge) → crosses row e ≡ false → test e ≡ false

crossing_test : (row : ℤ) → IsRowTest row (crosses row)
crossing_test row = record { same = λ e a b h. h; none = λ e h. h }

acting_test : (s : Square) → IsRowTest s.y (acts_on s)
acting_test s = record {
  same = λ e a b h. ap (λ c. c && int_le e.x s.x) h;
  none = λ e h. ap (λ c. c && int_le e.x s.x) h;
}

-- a weight, which the rows don't change
abbrev IsWeightOf : (Edge → ℤ) → Type 0
IsWeightOf field = (e : Edge) (a b : ℤ) → field (in_rows e a b) ≡ field e

-- level lines

before : (y1 y2 y row : ℤ) → row <ℤ y → y ≤ℤ y1 → is_between y1 row y2 ≡ false
before y1 y2 y row h g = grind (arith, ints)

behind : (y1 y2 y row : ℤ) → y ≤ℤ row → y2 ≤ℤ y → is_between y1 row y2 ≡ false
behind y1 y2 y row h g = grind (arith, ints)

below_sum : (test : Edge → Bool) (field : Edge → ℤ) (y row : ℤ) → IsRowTest row test → IsWeightOf field → row <ℤ y → (es : List Edge) → sum_where test field (edges_below y es) ≡ sum_where test field es
below_sum test field y row t w lt [] = refl
below_sum test field y row t w lt (e ∷ es) =
    let rest = below_sum test field y row t w lt es in
    let part = in_rows e e.y1 (if int_lt y e.y2 then y else e.y2) in
    by_lt_z e.y1 y
    (λ h. ap (λ xs. sum_where test field xs) (if_true (int_lt e.y1 y) (part ∷ edges_below y es) (edges_below y es) (lt_to e.y1 y h)) ∙
    both (test part) (test e) (field part) (field e) _ _ (t.same e e.y1 _ (low_between e.y1 row e.y2 y ∙ and_one (is_between e.y1 row e.y2) (int_lt row y) (lt_to row y lt))) (w e e.y1 _) rest)
    (λ h. ap (λ xs. sum_where test field xs) (if_false (int_lt e.y1 y) (part ∷ edges_below y es) (edges_below y es) (lt_false e.y1 y h)) ∙
    one (test e) (field e) _ _ (t.none e (before e.y1 e.y2 y row lt h)) rest)

below_none : (test : Edge → Bool) (field : Edge → ℤ) (y row : ℤ) → IsRowTest row test → y ≤ℤ row → (es : List Edge) → sum_where test field (edges_below y es) ≡ pos 0
below_none test field y row t le [] = refl
below_none test field y row t le (e ∷ es) =
    let rest = below_none test field y row t le es in
    let part = in_rows e e.y1 (if int_lt y e.y2 then y else e.y2) in
    by_lt_z e.y1 y
    (λ h. ap (λ xs. sum_where test field xs) (if_true (int_lt e.y1 y) (part ∷ edges_below y es) (edges_below y es) (lt_to e.y1 y h)) ∙
    sym (one (test part) (field part) _ _ (t.none part (low_between e.y1 row e.y2 y ∙ and_right (is_between e.y1 row e.y2) (int_lt row y) (lt_false row y le))) (sym rest)))
    (λ h. ap (λ xs. sum_where test field xs) (if_false (int_lt e.y1 y) (part ∷ edges_below y es) (edges_below y es) (lt_false e.y1 y h)) ∙ rest)

above_sum : (test : Edge → Bool) (field : Edge → ℤ) (y row : ℤ) → IsRowTest row test → IsWeightOf field → y ≤ℤ row → (es : List Edge) → sum_where test field (edges_above y es) ≡ sum_where test field es
above_sum test field y row t w le [] = refl
above_sum test field y row t w le (e ∷ es) =
    let rest = above_sum test field y row t w le es in
    let part = in_rows e (if int_lt e.y1 y then y else e.y1) e.y2 in
    by_lt_z y e.y2
    (λ h. ap (λ xs. sum_where test field xs) (if_true (int_lt y e.y2) (part ∷ edges_above y es) (edges_above y es) (lt_to y e.y2 h)) ∙
    both (test part) (test e) (field part) (field e) _ _ (t.same e _ e.y2 (high_between e.y1 row e.y2 y ∙ and_one (is_between e.y1 row e.y2) (int_le y row) (le_to y row le))) (w e _ e.y2) rest)
    (λ h. ap (λ xs. sum_where test field xs) (if_false (int_lt y e.y2) (part ∷ edges_above y es) (edges_above y es) (lt_false y e.y2 h)) ∙
    one (test e) (field e) _ _ (t.none e (behind e.y1 e.y2 y row le h)) rest)

above_none : (test : Edge → Bool) (field : Edge → ℤ) (y row : ℤ) → IsRowTest row test → row <ℤ y → (es : List Edge) → sum_where test field (edges_above y es) ≡ pos 0
above_none test field y row t lt [] = refl
above_none test field y row t lt (e ∷ es) =
    let rest = above_none test field y row t lt es in
    let part = in_rows e (if int_lt e.y1 y then y else e.y1) e.y2 in
    by_lt_z y e.y2
    (λ h. ap (λ xs. sum_where test field xs) (if_true (int_lt y e.y2) (part ∷ edges_above y es) (edges_above y es) (lt_to y e.y2 h)) ∙
    sym (one (test part) (field part) _ _ (t.none part (high_between e.y1 row e.y2 y ∙ and_right (is_between e.y1 row e.y2) (int_le y row) (le_false y row lt))) (sym rest)))
    (λ h. ap (λ xs. sum_where test field xs) (if_false (int_lt y e.y2) (part ∷ edges_above y es) (edges_above y es) (lt_false y e.y2 h)) ∙ rest)

below_edges : (y : ℤ) (es : List Edge) → All IsEdge es → All IsEdge (edges_below y es)
below_edges y [] h = h
below_edges y (e ∷ es) h =
    let rest = below_edges y es (tail_of IsEdge e es h) in
    let own : IsEdge e = h 0 e (omega arith) in
    let part = in_rows e e.y1 (if int_lt y e.y2 then y else e.y2) in
    by_lt_z e.y1 y
    (λ lt. subst (λ (xs : List Edge). All IsEdge xs) (sym (if_true (int_lt e.y1 y) (part ∷ edges_below y es) (edges_below y es) (lt_to e.y1 y lt)))
    (All-cons IsEdge part _ (record { some = less_than_least e.y1 y e.y2 lt own.some }) rest))
    (λ le. subst (λ (xs : List Edge). All IsEdge xs) (sym (if_false (int_lt e.y1 y) (part ∷ edges_below y es) (edges_below y es) (lt_false e.y1 y le))) rest)

above_edges : (y : ℤ) (es : List Edge) → All IsEdge es → All IsEdge (edges_above y es)
above_edges y [] h = h
above_edges y (e ∷ es) h =
    let rest = above_edges y es (tail_of IsEdge e es h) in
    let own : IsEdge e = h 0 e (omega arith) in
    let part = in_rows e (if int_lt e.y1 y then y else e.y1) e.y2 in
    by_lt_z y e.y2
    (λ lt. subst (λ (xs : List Edge). All IsEdge xs) (sym (if_true (int_lt y e.y2) (part ∷ edges_above y es) (edges_above y es) (lt_to y e.y2 lt)))
    (All-cons IsEdge part _ (record { some = most_less_than e.y1 y e.y2 lt own.some }) rest))
    (λ le. subst (λ (xs : List Edge). All IsEdge xs) (sym (if_false (int_lt y e.y2) (part ∷ edges_above y es) (edges_above y es) (lt_false y e.y2 le))) rest)

below_total : (field : Edge → ℤ) (y row : ℤ) (es : List Edge) → IsWeightOf field → total field es row ≡ pos 0 → total field (edges_below y es) row ≡ pos 0
below_total field y row es w h = by_lt_z row y
    (λ lt. below_sum (crosses row) field y row (crossing_test row) w lt es ∙ h)
    (λ le. below_none (crosses row) field y row (crossing_test row) le es)

above_total : (field : Edge → ℤ) (y row : ℤ) (es : List Edge) → IsWeightOf field → total field es row ≡ pos 0 → total field (edges_above y es) row ≡ pos 0
above_total field y row es w h = by_lt_z row y
    (λ lt. above_none (crosses row) field y row (crossing_test row) lt es)
    (λ le. above_sum (crosses row) field y row (crossing_test row) w le es ∙ h)

kept_first : IsWeightOf first_of
kept_first e a b = refl

kept_second : IsWeightOf second_of
kept_second e a b = refl

pub level : (y : ℤ) (es : List Edge) → All IsEdge es → IsBalanced es → AreSides (record { axis = Y; at = y }) es (edges_below y es) (edges_above y es)
level y es h b = record {
  low_edges = below_edges y es h;
  low_balanced = record { first = λ row. below_total first_of y row es kept_first (b.first row); second = λ row. below_total second_of y row es kept_second (b.second row) };
  low_set = λ op s. by_lt_z s.y y
      (λ lt. same_holds op _ _ _ _ (below_sum (acts_on s) first_of y s.y (acting_test s) kept_first lt es) (below_sum (acts_on s) second_of y s.y (acting_test s) kept_second lt es) ∙ sym (and_one (set_of op es s) (int_lt s.y y) (lt_to s.y y lt)))
      (λ le. same_holds op _ _ _ _ (below_none (acts_on s) first_of y s.y (acting_test s) le es) (below_none (acts_on s) second_of y s.y (acting_test s) le es) ∙ no_weights op ∙ sym (and_right (set_of op es s) (int_lt s.y y) (lt_false s.y y le)));
  high_edges = above_edges y es h;
  high_balanced = record { first = λ row. above_total first_of y row es kept_first (b.first row); second = λ row. above_total second_of y row es kept_second (b.second row) };
  high_set = λ op s. by_lt_z s.y y
      (λ lt. same_holds op _ _ _ _ (above_none (acts_on s) first_of y s.y (acting_test s) lt es) (above_none (acts_on s) second_of y s.y (acting_test s) lt es) ∙ no_weights op ∙ sym (and_right (set_of op es s) (int_le y s.y) (le_false y s.y lt)))
      (λ le. same_holds op _ _ _ _ (above_sum (acts_on s) first_of y s.y (acting_test s) kept_first le es) (above_sum (acts_on s) second_of y s.y (acting_test s) kept_second le es) ∙ sym (and_one (set_of op es s) (int_le y s.y) (le_to y s.y le)));
}

-- upright lines

parted_sum : (test : Edge → Bool) (field : Edge → ℤ) (x : ℤ) (es : List Edge) → (sum_where test field (edges_left x es) +ℤ sum_where test field (edges_right x es)) ≡ sum_where test field es
parted_sum test field x [] = refl
parted_sum test field x (e ∷ es) =
    let rest = parted_sum test field x es in
    by_lt_z e.x x
    (λ lt. let l = ap (λ xs. sum_where test field xs) (if_true (int_lt e.x x) (e ∷ edges_left x es) (edges_left x es) (lt_to e.x x lt)) in
    let r = ap (λ xs. sum_where test field xs) (if_true (int_lt e.x x) (edges_right x es) (e ∷ edges_right x es) (lt_to e.x x lt)) in
    added _ _ (if test e then field e else pos 0) _ _ _ l r rest)
    (λ le. let l = ap (λ xs. sum_where test field xs) (if_false (int_lt e.x x) (e ∷ edges_left x es) (edges_left x es) (lt_false e.x x le)) in
    let r = ap (λ xs. sum_where test field xs) (if_false (int_lt e.x x) (edges_right x es) (e ∷ edges_right x es) (lt_false e.x x le)) in
    added_right _ _ (if test e then field e else pos 0) _ _ _ l r rest)
  where
    added : (l r v a b s : ℤ) → l ≡ v +ℤ a → r ≡ b → a +ℤ b ≡ s → l +ℤ r ≡ v +ℤ s
    added l r v a b s e f g = omega (arith, ints, e, f, g)

    added_right : (l r v a b s : ℤ) → l ≡ a → r ≡ v +ℤ b → a +ℤ b ≡ s → l +ℤ r ≡ v +ℤ s
    added_right l r v a b s e f g = omega (arith, ints, e, f, g)

left_line : (x : ℤ) (es : List Edge) → All (λ e. e.x <ℤ x) (edges_left x es)
left_line x [] = All-nil (λ (e : Edge). e.x <ℤ x)
left_line x (e ∷ es) = by_lt_z e.x x
    (λ lt. subst (λ (xs : List Edge). All (λ e. e.x <ℤ x) xs) (sym (if_true (int_lt e.x x) (e ∷ edges_left x es) (edges_left x es) (lt_to e.x x lt))) (All-cons (λ (e : Edge). e.x <ℤ x) e _ lt (left_line x es)))
    (λ le. subst (λ (xs : List Edge). All (λ e. e.x <ℤ x) xs) (sym (if_false (int_lt e.x x) (e ∷ edges_left x es) (edges_left x es) (lt_false e.x x le))) (left_line x es))

right_line : (x : ℤ) (es : List Edge) → All (λ e. x ≤ℤ e.x) (edges_right x es)
right_line x [] = All-nil (λ (e : Edge). x ≤ℤ e.x)
right_line x (e ∷ es) = by_lt_z e.x x
    (λ lt. subst (λ (xs : List Edge). All (λ e. x ≤ℤ e.x) xs) (sym (if_true (int_lt e.x x) (edges_right x es) (e ∷ edges_right x es) (lt_to e.x x lt))) (right_line x es))
    (λ le. subst (λ (xs : List Edge). All (λ e. x ≤ℤ e.x) xs) (sym (if_false (int_lt e.x x) (edges_right x es) (e ∷ edges_right x es) (lt_false e.x x le))) (All-cons (λ (e : Edge). x ≤ℤ e.x) e _ le (right_line x es)))

pub left_edges : (P : Edge → Type 0) (x : ℤ) (es : List Edge) → All P es → All P (edges_left x es)
left_edges P x [] h = h
left_edges P x (e ∷ es) h =
    let rest = left_edges P x es (λ k d lt. h (suc k) d (omega arith)) in
    by_lt_z e.x x
    (λ lt. subst (λ (xs : List Edge). All P xs) (sym (if_true (int_lt e.x x) (e ∷ edges_left x es) (edges_left x es) (lt_to e.x x lt))) (All-cons P e _ (h 0 e (omega arith)) rest))
    (λ le. subst (λ (xs : List Edge). All P xs) (sym (if_false (int_lt e.x x) (e ∷ edges_left x es) (edges_left x es) (lt_false e.x x le))) rest)

pub right_edges : (P : Edge → Type 0) (x : ℤ) (es : List Edge) → All P es → All P (edges_right x es)
right_edges P x [] h = h
right_edges P x (e ∷ es) h =
    let rest = right_edges P x es (λ k d lt. h (suc k) d (omega arith)) in
    by_lt_z e.x x
    (λ lt. subst (λ (xs : List Edge). All P xs) (sym (if_true (int_lt e.x x) (edges_right x es) (e ∷ edges_right x es) (lt_to e.x x lt))) rest)
    (λ le. subst (λ (xs : List Edge). All P xs) (sym (if_false (int_lt e.x x) (edges_right x es) (e ∷ edges_right x es) (lt_false e.x x le))) (All-cons P e _ (h 0 e (omega arith)) rest))

-- none acts on a square left of it, and all of a row on one that isn't

weight_none : (field : Edge → ℤ) (s : Square) (es : List Edge) → All (λ e. s.x <ℤ e.x) es → weight field es s ≡ pos 0
weight_none field s [] h = refl
weight_none field s (e ∷ es) h =
    sym (one (acts_on s e) (field e) _ _ (and_right (crosses s.y e) (int_le e.x s.x) (le_false e.x s.x (h 0 e (omega arith)))) (sym (weight_none field s es (λ k d lt. h (suc k) d (omega arith)))))

weight_all : (field : Edge → ℤ) (s : Square) (es : List Edge) → All (λ e. e.x ≤ℤ s.x) es → weight field es s ≡ total field es s.y
weight_all field s [] h = refl
weight_all field s (e ∷ es) h =
    both (acts_on s e) (crosses s.y e) (field e) (field e) _ _ (and_one (crosses s.y e) (int_le e.x s.x) (le_to e.x s.x (h 0 e (omega arith)))) refl (weight_all field s es (λ k d lt. h (suc k) d (omega arith)))

all_change : (P Q : Edge → Type 0) (es : List Edge) → ((e : Edge) → P e → Q e) → All P es → All Q es
all_change P Q es f h = λ k d lt. f _ (h k d lt)

-- the weights of one kind on either side, by the sums at the line
low_weight : (field : Edge → ℤ) (x : ℤ) (s : Square) (es sums : List Edge) → All (λ e. e.x ≡ x) sums → s.x <ℤ x → weight field (edges_left x es ++ sums) s ≡ weight field es s
low_weight field x s es sums line lt =
    let a = sum_append (acts_on s) field (edges_left x es) sums in
    let b = parted_sum (acts_on s) field x es in
    let c = weight_none field s (edges_right x es) (all_change (λ e. x ≤ℤ e.x) (λ e. s.x <ℤ e.x) (edges_right x es) (λ e h. omega (arith, ints)) (right_line x es)) in
    let d = weight_none field s sums (all_change (λ e. e.x ≡ x) (λ e. s.x <ℤ e.x) sums (λ e h. omega (arith, ints)) line) in
    omega (arith, ints, a, b, c, d)

high_weight : (field : Edge → ℤ) (x : ℤ) (s : Square) (es sums : List Edge) → All (λ e. e.x ≡ x) sums → total field sums s.y ≡ total field (edges_left x es) s.y → x ≤ℤ s.x → weight field (edges_right x es ++ sums) s ≡ weight field es s
high_weight field x s es sums line same le =
    let a = sum_append (acts_on s) field (edges_right x es) sums in
    let b = parted_sum (acts_on s) field x es in
    let c = weight_all field s (edges_left x es) (all_change (λ e. e.x <ℤ x) (λ e. e.x ≤ℤ s.x) (edges_left x es) (λ e h. omega (arith, ints)) (left_line x es)) in
    let d = weight_all field s sums (all_change (λ e. e.x ≡ x) (λ e. e.x ≤ℤ s.x) sums (λ e h. omega (arith, ints)) line) in
    omega (arith, ints, a, b, c, d, same)

-- left of the line no edge of the upper side acts, and right of it the lower side sums to nothing
high_nothing : (field : Edge → ℤ) (x : ℤ) (s : Square) (es sums : List Edge) → All (λ e. e.x ≡ x) sums → s.x <ℤ x → weight field (edges_right x es ++ sums) s ≡ pos 0
high_nothing field x s es sums line lt =
    let a = sum_append (acts_on s) field (edges_right x es) sums in
    let c = weight_none field s (edges_right x es) (all_change (λ e. x ≤ℤ e.x) (λ e. s.x <ℤ e.x) (edges_right x es) (λ e h. omega (arith, ints)) (right_line x es)) in
    let d = weight_none field s sums (all_change (λ e. e.x ≡ x) (λ e. s.x <ℤ e.x) sums (λ e h. omega (arith, ints)) line) in
    omega (arith, ints, a, c, d)

low_nothing : (field : Edge → ℤ) (x : ℤ) (s : Square) (es sums : List Edge) → All (λ e. e.x ≡ x) sums → total field sums s.y ≡ total field (edges_right x es) s.y → total field es s.y ≡ pos 0 → x ≤ℤ s.x → weight field (edges_left x es ++ sums) s ≡ pos 0
low_nothing field x s es sums line same none le =
    let a = sum_append (acts_on s) field (edges_left x es) sums in
    let b = parted_sum (crosses s.y) field x es in
    let c = weight_all field s (edges_left x es) (all_change (λ e. e.x <ℤ x) (λ e. e.x ≤ℤ s.x) (edges_left x es) (λ e h. omega (arith, ints)) (left_line x es)) in
    let d = weight_all field s sums (all_change (λ e. e.x ≡ x) (λ e. e.x ≤ℤ s.x) sums (λ e h. omega (arith, ints)) line) in
    omega (arith, ints, a, b, c, d, same, none)

low_total : (field : Edge → ℤ) (x row : ℤ) (es sums : List Edge) → total field sums row ≡ total field (edges_right x es) row → total field es row ≡ pos 0 → total field (edges_left x es ++ sums) row ≡ pos 0
low_total field x row es sums same none =
    let a = sum_append (crosses row) field (edges_left x es) sums in let b = parted_sum (crosses row) field x es in omega (arith, ints, a, b, same, none)

high_total : (field : Edge → ℤ) (x row : ℤ) (es sums : List Edge) → total field sums row ≡ total field (edges_left x es) row → total field es row ≡ pos 0 → total field (edges_right x es ++ sums) row ≡ pos 0
high_total field x row es sums same none =
    let a = sum_append (crosses row) field (edges_right x es) sums in let b = parted_sum (crosses row) field x es in omega (arith, ints, a, b, same, none)

pub upright : (x : ℤ) (es left right : List Edge) → All IsEdge es → IsBalanced es → AreSums x (edges_left x es) left → AreSums x (edges_right x es) right → AreSides (upright_at x) es (edges_left x es ++ right) (edges_right x es ++ left)
upright x es left right h b l r = record {
  low_edges = All-append IsEdge (edges_left x es) right (left_edges IsEdge x es h) r.sound;
  low_balanced = record { first = λ row. low_total first_of x row es right (r.first row) (b.first row); second = λ row. low_total second_of x row es right (r.second row) (b.second row) };
  low_set = λ op s. by_lt_z s.x x
      (λ lt. same_holds op _ _ _ _ (low_weight first_of x s es right r.line lt) (low_weight second_of x s es right r.line lt) ∙ sym (and_one (set_of op es s) (int_lt s.x x) (lt_to s.x x lt)))
      (λ le. same_holds op _ _ _ _ (low_nothing first_of x s es right r.line (r.first s.y) (b.first s.y) le) (low_nothing second_of x s es right r.line (r.second s.y) (b.second s.y) le) ∙ no_weights op ∙ sym (and_right (set_of op es s) (int_lt s.x x) (lt_false s.x x le)));
  high_edges = All-append IsEdge (edges_right x es) left (right_edges IsEdge x es h) l.sound;
  high_balanced = record { first = λ row. high_total first_of x row es left (l.first row) (b.first row); second = λ row. high_total second_of x row es left (l.second row) (b.second row) };
  high_set = λ op s. by_lt_z s.x x
      (λ lt. same_holds op _ _ _ _ (high_nothing first_of x s es left l.line lt) (high_nothing second_of x s es left l.line lt) ∙ no_weights op ∙ sym (and_right (set_of op es s) (int_le x s.x) (le_false x s.x lt)))
      (λ le. same_holds op _ _ _ _ (high_weight first_of x s es left l.line (l.first s.y) le) (high_weight second_of x s es left l.line (l.second s.y) le) ∙ sym (and_one (set_of op es s) (int_le x s.x) (le_to x s.x le)));
}

-- the loops

if_append : (b : Bool) (x y z : List Edge) → ((if b then x else y) ++ z) ≡ (if b then (x ++ z) else (y ++ z))
if_append true x y z = refl
if_append false x y z = refl

pub below_append : (y : ℤ) (xs ys : List Edge) → edges_below y (xs ++ ys) ≡ edges_below y xs ++ edges_below y ys
below_append y [] ys = refl
below_append y (e ∷ xs) ys =
    let part = in_rows e e.y1 (if int_lt y e.y2 then y else e.y2) in
    ap (λ (q : List Edge). if int_lt e.y1 y then part ∷ q else q) (below_append y xs ys) ∙ sym (if_append (int_lt e.y1 y) (part ∷ edges_below y xs) (edges_below y xs) (edges_below y ys))

pub above_append : (y : ℤ) (xs ys : List Edge) → edges_above y (xs ++ ys) ≡ edges_above y xs ++ edges_above y ys
above_append y [] ys = refl
above_append y (e ∷ xs) ys =
    let part = in_rows e (if int_lt e.y1 y then y else e.y1) e.y2 in
    ap (λ (q : List Edge). if int_lt y e.y2 then part ∷ q else q) (above_append y xs ys) ∙ sym (if_append (int_lt y e.y2) (part ∷ edges_above y xs) (edges_above y xs) (edges_above y ys))

pub left_append : (x : ℤ) (xs ys : List Edge) → edges_left x (xs ++ ys) ≡ edges_left x xs ++ edges_left x ys
left_append x [] ys = refl
left_append x (e ∷ xs) ys = ap (λ (q : List Edge). if int_lt e.x x then e ∷ q else q) (left_append x xs ys) ∙ sym (if_append (int_lt e.x x) (e ∷ edges_left x xs) (edges_left x xs) (edges_left x ys))

pub right_append : (x : ℤ) (xs ys : List Edge) → edges_right x (xs ++ ys) ≡ edges_right x xs ++ edges_right x ys
right_append x [] ys = refl
right_append x (e ∷ xs) ys = ap (λ (q : List Edge). if int_lt e.x x then q else e ∷ q) (right_append x xs ys) ∙ sym (if_append (int_lt e.x x) (edges_right x xs) (e ∷ edges_right x xs) (edges_right x ys))

-- one step of a loop that adds f of one more edge to a list that began empty
pub edges_more : (f : List Edge → List Edge) → ((xs ys : List Edge) → f (xs ++ ys) ≡ f xs ++ f ys) → (es : List Edge) (i : ℕ) (d : Edge) (out : List Edge) → i < length es → out ≡ f (take i es) → out ++ f (get_or es i d ∷ []) ≡ f (take (i + 1) es)
edges_more f over es i d out lt e = ap (λ (q : List Edge). q ++ f (get_or es i d ∷ [])) e ∙ sym (over (take i es) (get_or es i d ∷ [])) ∙ ap f (sym (take_more es i d lt))

pub edges_all : (f : List Edge → List Edge) (es : List Edge) (i : ℕ) (out : List Edge) → length es < i + 1 → out ≡ f (take i es) → out ≡ f es
edges_all f es i out le e = e ∙ ap f (take_all i es (omega arith))
