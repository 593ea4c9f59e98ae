-- Edges in another order.
use Rattle.std.proofs.Common.{◌≡◌, ◌⊎◌, inl, inr, ℕ, ℤ, pos, negsuc, suc, ◌+ℤ◌, ◌≤ℤ◌, ◌<ℤ◌, ◌<◌, ◌+◌, List, [], ◌∷◌, Bool, true, false, length, refl, sym, ◌∙◌, ap, subst, arith, get_or, if◌then◌else◌}
use Rattle.std.proofs.lemmas.Int.{ints, by_lt_z}
use Rattle.std.proofs.lemmas.Bool.{false≢true}
use Rattle.std.specs.Ordering.{is_lt, ordering_then, int_cmp}
use Rattle.std.specs.List.{sum_by, All}
use Rattle.std.specs.List.Sorted.{IsPermutation}
use Rattle.std.proofs.lemmas.List.Sums.{sum_by-cons}
use Rattle.std.proofs.lemmas.List.Sorted.{sum_by-IsPermutation, All-permutation}
use Rattle.rect_sets.specs.Edges.{first_of, second_of, sum_where, crosses, acts_on, set_of, IsBalanced, IsEdge}
use Rattle.rect_sets.specs.Sweeps.{AreBlocks}
use Rattle.rect_sets.specs.Actives.{Follows, AreNext}
use Rattle.rect_sets.specs.Blocks.{InSweepOrder, HaveRoom, AreSortedEdges}
use Rattle.rect_sets.proofs.RowRuns.{same_holds}
use Rattle.rect_sets.proofs.Unique.{block_of}
use Rattle.geo_base.specs.declared.shapes.Rect.{Rect}
use Rattle.geo_base.specs.declared.shapes.Square.{Square}
use Rattle.rect_sets.specs.declared.row.Edge.{Edge}
use Rattle.geo_base.specs.declared.layer.Op.{Op}

pub up_part : ℤ → ℕ
up_part (pos n) = n
up_part (negsuc n) = 0

pub down_part : ℤ → ℕ
down_part (pos n) = 0
down_part (negsuc n) = suc n

pub two_parts : (z : ℤ) → (z +ℤ pos (down_part z)) ≡ pos (up_part z)
unfolding up_part down_part
two_parts (pos n) = omega (arith, ints)
two_parts (negsuc n) = omega (arith, ints)

value_of : (Edge → Bool) → (Edge → ℤ) → Edge → ℤ
value_of test field e = if test e then field e else pos 0

sum_parts : (test : Edge → Bool) (field : Edge → ℤ) (xs : List Edge) → (sum_where test field xs +ℤ pos (sum_by (λ e. down_part (if test e then field e else pos 0)) xs)) ≡ pos (sum_by (λ e. up_part (if test e then field e else pos 0)) xs)
sum_parts test field [] = omega (arith, ints)
sum_parts test field (e ∷ xs) =
    let d = sum_by-cons (λ e. down_part (if test e then field e else pos 0)) e xs in
    let u = sum_by-cons (λ e. up_part (if test e then field e else pos 0)) e xs in
    let t = two_parts (if test e then field e else pos 0) in
    let r = sum_parts test field xs in
    omega (arith, ints, d, u, t, r)

pub sum_permuted : (test : Edge → Bool) (field : Edge → ℤ) (xs ys : List Edge) → IsPermutation xs ys → sum_where test field ys ≡ sum_where test field xs
sum_permuted test field xs ys p =
    let d = sum_by-IsPermutation (λ e. down_part (if test e then field e else pos 0)) xs ys p in
    let u = sum_by-IsPermutation (λ e. up_part (if test e then field e else pos 0)) xs ys p in
    let a = sum_parts test field xs in
    let b = sum_parts test field ys in
    omega (arith, ints, d, u, a, b)

pub balanced_permuted : (xs ys : List Edge) → IsPermutation xs ys → IsBalanced xs → IsBalanced ys
balanced_permuted xs ys p h = record {
  first = λ row. sum_permuted (crosses row) first_of xs ys p ∙ h.first row;
  second = λ row. sum_permuted (crosses row) second_of xs ys p ∙ h.second row;
}

pub blocks_permuted : (op : Op) (xs ys : List Edge) (rects : List Rect) → IsPermutation xs ys → AreBlocks (set_of op ys) rects → AreBlocks (set_of op xs) rects
blocks_permuted op xs ys rects p h =
    let same : (s : Square) → set_of op ys s ≡ set_of op xs s = λ (s : Square). same_holds op _ _ _ _ (sum_permuted (acts_on s) first_of xs ys p) (sum_permuted (acts_on s) second_of xs ys p) in
    record {
      each = λ r. (λ l. block_of (set_of op ys) (set_of op xs) r same ((h.each r).0 l), λ k. (h.each r).1 (block_of (set_of op xs) (set_of op ys) r (λ s. sym (same s)) k));
      same = λ s. h.same s ∙ same s;
    }

-- sorted edges

next_of : (y x : ℤ) (xs : List Edge) → ((k : ℕ) (d : Edge) → k < length xs → IsEdge (get_or xs k d)) → HaveRoom xs → ((d : Edge) → 0 < length xs → Follows y x (get_or xs 0 d)) → ((k : ℕ) (d : Edge) → k + 1 < length xs → Follows (get_or xs k d).y1 (get_or xs k d).x (get_or xs (k + 1) d)) → AreNext y x xs
next_of y x [] all room f h = tt
next_of y x (e ∷ xs) all room f h =
    let own : IsEdge e = all 0 e (omega arith) in (
      f e (omega arith),
      room 0 e (omega arith),
      own.some,
      next_of e.y1 e.x xs (λ k d lt. all (suc k) d (omega arith)) (λ k d lt. room (suc k) d (omega arith))
          (λ d lt. subst (λ (q : Edge). Follows e.y1 e.x q) (second e xs d) (h 0 d (omega arith)))
          (λ k d lt. subst (λ (q : Edge). Follows (get_or xs k d).y1 (get_or xs k d).x q) (later e xs k d) (h (suc k) d (omega arith))),
    )
  where
    second : (e : Edge) (xs : List Edge) (d : Edge) → get_or (e ∷ xs) (0 + 1) d ≡ get_or xs 0 d
    second e xs d = let one : 0 + 1 ≡ suc 0 = omega arith in ap (λ n. get_or (e ∷ xs) n d) one

    later : (e : Edge) (xs : List Edge) (k : ℕ) (d : Edge) → get_or (e ∷ xs) (suc k + 1) d ≡ get_or xs (k + 1) d
    later e xs k d = let one : suc k + 1 ≡ suc (k + 1) = omega arith in ap (λ n. get_or (e ∷ xs) n d) one

pub in_sweep_order : (xs : List Edge) → All IsEdge xs → HaveRoom xs → AreSortedEdges xs → InSweepOrder xs
in_sweep_order [] all room h = tt
in_sweep_order (e ∷ xs) all room h =
    let left = room 0 e (omega arith) in
    let n = next_of e.y1 e.x (e ∷ xs) all room (λ d lt. inr (refl, omega (arith, ints))) h in
    (inr (refl, left), n.1, n.2, n.3)

pub all_permuted : (xs ys : List Edge) → IsPermutation xs ys → All IsEdge xs → All IsEdge ys
all_permuted xs ys p h = All-permutation IsEdge xs ys p h

pub follows_from : (y y' x x' : ℤ) → is_lt (ordering_then (int_cmp y' y) (int_cmp x' x)) ≡ false → (y <ℤ y') ⊎ ((y ≡ y') × (x ≤ℤ x'))
follows_from y y' x x' h =
    by_lt_z y y' (λ lt. inl lt) (λ le. by_lt_z y' y
    (λ lt. absurd (false≢true (sym h ∙ lower y y' x x' lt)))
    (λ le'. by_lt_z x' x
    (λ lt. absurd (false≢true (sym h ∙ tie y y' x x' (omega (arith, ints)) lt)))
    (λ more. inr (omega (arith, ints), more))))
  where
    lower : (y y' x x' : ℤ) → y' <ℤ y → is_lt (ordering_then (int_cmp y' y) (int_cmp x' x)) ≡ true
    lower y y' x x' h = grind (arith, ints)

    tie : (y y' x x' : ℤ) → y' ≡ y → x' <ℤ x → is_lt (ordering_then (int_cmp y' y) (int_cmp x' x)) ≡ true
    tie y y' x x' e h = grind (arith, ints)
