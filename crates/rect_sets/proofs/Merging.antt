-- Active edges and those that begin.
use Rattle.std.proofs.Common.{◌≡◌, ◌⊎◌, inl, inr, ℕ, ℤ, pos, ◌+ℤ◌, ◌≤ℤ◌, ◌<ℤ◌, ◌<◌, ◌+◌, List, [], ◌∷◌, ◌++◌, Bool, true, false, take, drop, length, refl, sym, ◌∙◌, ap, subst, arith, if◌then◌else◌}
use Rattle.std.proofs.lemmas.Int.{ints}
use Rattle.std.proofs.lemmas.List.{take_more, drop_more, drop_all}
use Rattle.std.proofs.lemmas.Bool.{false≢true, cases_lt}
use Rattle.rect_sets.specs.Rows.{AreInOrder, AreUpTo}
use Rattle.rect_sets.specs.Edges.{sum_where}
use Rattle.rect_sets.specs.Actives.{leftmost, edge_at, Follows, AreNext, HaveBegun, AreCrossing, EndFrom, MergeState, Takes, IsReady, MergeSoFar, Merged, EndSoFar}
use Rattle.rect_sets.proofs.RowRuns.{upto_raised, upto_push}
use Rattle.rect_sets.specs.declared.row.Edge.{Edge}

pub cut_edges : (edges : List Edge) (k : ℕ) → k < length edges → drop k edges ≡ edge_at edges k ∷ drop (k + 1) edges
cut_edges edges k lt = drop_more edges k (record { x = pos 0; y1 = pos 0; y2 = pos 0; first = pos 0; second = pos 0 }) lt

pub sum_push : (test : Edge → Bool) (field : Edge → ℤ) (xs : List Edge) (e : Edge) → sum_where test field (xs ++ e ∷ []) ≡ sum_where test field xs +ℤ (if test e then field e else pos 0)
sum_push test field [] e = omega (arith, ints)
sum_push test field (y ∷ xs) e = omega (arith, ints, sum_push test field xs e)

order_push : (from low : ℤ) (xs : List Edge) (e : Edge) → from ≤ℤ e.x → low ≤ℤ e.x → AreUpTo low xs → AreInOrder from xs → AreInOrder from (xs ++ e ∷ [])
order_push from low [] e a b u h = (a, tt)
order_push from low (x ∷ xs) e a b u h = (h.0, order_push x.x low xs e (let u0 = u.0 in omega (arith, ints)) b u.1 h.1)

crossing_push : (y : ℤ) (xs : List Edge) (e : Edge) → e.y1 ≤ℤ y → y <ℤ e.y2 → AreCrossing y xs → AreCrossing y (xs ++ e ∷ [])
crossing_push y [] e a b h = (a, b, tt)
crossing_push y (x ∷ xs) e a b h = (h.0, h.1, crossing_push y xs e a b h.2)

pub order_weaken : (a b : ℤ) (xs : List Edge) → a ≤ℤ b → AreInOrder b xs → AreInOrder a xs
order_weaken a b [] le h = tt
order_weaken a b (x ∷ xs) le h = (omega (arith, ints, h.0), h.1)

order_to : (a b : ℤ) (xs : List Edge) (k : ℕ) → (k < length xs → b ≤ℤ (edge_at xs k).x) → AreInOrder a (drop k xs) → AreInOrder b (drop k xs)
order_to a b xs k f h = elim (cases_lt k (length xs)) [
  | inl lt ↦ (let cut = cut_edges xs k lt in
      let g = subst (λ (q : List Edge). AreInOrder a q) cut h in
      subst (λ (q : List Edge). AreInOrder b q) (sym cut) (f lt, g.1))
  | inr le ↦ subst (λ (q : List Edge). AreInOrder b q) (sym (drop_all k xs le)) tt
]

follows_at : (y a b : ℤ) (e : Edge) → (y <ℤ e.y1) ⊎ (b ≤ℤ e.x) → Follows y a e → Follows y b e
follows_at y a b e (inl lt) g = inl lt
follows_at y a b e (inr le) (inl lt) = inl lt
follows_at y a b e (inr le) (inr g) = inr (g.0, le)

pub next_to : (y a b : ℤ) (xs : List Edge) (k : ℕ) → (k < length xs → (y <ℤ (edge_at xs k).y1) ⊎ (b ≤ℤ (edge_at xs k).x)) → AreNext y a (drop k xs) → AreNext y b (drop k xs)
next_to y a b xs k f h = elim (cases_lt k (length xs)) [
  | inl lt ↦ (let cut = cut_edges xs k lt in
      let g = subst (λ (q : List Edge). AreNext y a q) cut h in
      subst (λ (q : List Edge). AreNext y b q) (sym cut) (follows_at y a b (edge_at xs k) (f lt) g.0, g.1, g.2, g.3))
  | inr le ↦ subst (λ (q : List Edge). AreNext y b q) (sym (drop_all k xs le)) tt
]

pub begins_at : (y x : ℤ) (e : Edge) → e.y1 ≤ℤ y → Follows y x e → (y ≡ e.y1) × (x ≤ℤ e.x)
begins_at y x e le (inl lt) = absurd (omega (arith, ints))
begins_at y x e le (inr g) = g

one_less : (test : Edge → Bool) (field : Edge → ℤ) (xs : List Edge) (k : ℕ) → k < length xs → sum_where test field (drop k xs) ≡ (if test (edge_at xs k) then field (edge_at xs k) else pos 0) +ℤ sum_where test field (drop (k + 1) xs)
one_less test field xs k lt = ap (λ (q : List Edge). sum_where test field q) (cut_edges xs k lt)

-- sums on plain numbers
regroup_first : (o o' v a a' s : ℤ) → o' ≡ o +ℤ v → a ≡ v +ℤ a' → (o' +ℤ (a' +ℤ s)) ≡ (o +ℤ (a +ℤ s))
regroup_first o o' v a a' s h g = omega (arith, ints)

regroup_second : (o o' v a s s' : ℤ) → o' ≡ o +ℤ v → s ≡ v +ℤ s' → (o' +ℤ (a +ℤ s')) ≡ (o +ℤ (a +ℤ s))
regroup_second o o' v a s s' h g = omega (arith, ints)

regroup_none : (o v a a' s : ℤ) → v ≡ pos 0 → a ≡ v +ℤ a' → (o +ℤ (a' +ℤ s)) ≡ (o +ℤ (a +ℤ s))
regroup_none o v a a' s z g = omega (arith, ints)

nothing_if : (b : Bool) (v : ℤ) → b ≡ false → (if b then v else pos 0) ≡ pos 0
nothing_if true v e = absurd (false≢true (sym e))
nothing_if false v e = refl

pub take_ended : (y : ℤ) (active edges : List Edge) (i j : ℕ) (out : List Edge) → MergeState y active edges i j out → i < length active → (edge_at active i).y2 ≤ℤ y → Takes y active edges i (i + 1) j j out out true
take_ended y active edges i j out h lt le =
    let cut = cut_edges active i lt in
    let order = subst (λ (q : List Edge). AreInOrder h.low q) cut h.active_order in
    let begun = subst (λ (q : List Edge). HaveBegun y q) cut h.active_begun in
    record {
      state = record {
        i_in = omega arith;
        j_in = h.j_in;
        low = h.low;
        low_in = h.low_in;
        active_order = order_weaken h.low (edge_at active i).x (drop (i + 1) active) order.0 order.1;
        active_begun = begun.1;
        edges_next = h.edges_next;
        out_order = h.out_order;
        out_up_to = h.out_up_to;
        out_crossing = h.out_crossing;
      };
      sums = λ test field ignores. regroup_none (sum_where test field out) _ _ _ (sum_where test field (drop j edges)) (nothing_if (test (edge_at active i)) (field (edge_at active i)) (ignores (edge_at active i) le)) (one_less test field active i lt);
      on = λ e. omega arith;
      not_back = omega arith;
      end = λ e. cc;
    }

pub take_active : (y : ℤ) (active edges : List Edge) (i j : ℕ) (out : List Edge) → MergeState y active edges i j out → i < length active → y <ℤ (edge_at active i).y2 → (j < length edges → (y <ℤ (edge_at edges j).y1) ⊎ ((edge_at active i).x ≤ℤ (edge_at edges j).x)) → Takes y active edges i (i + 1) j j out (out ++ edge_at active i ∷ []) true
take_active y active edges i j out h lt above first =
    let e : Edge = edge_at active i in
    let cut = cut_edges active i lt in
    let order = subst (λ (q : List Edge). AreInOrder h.low q) cut h.active_order in
    let begun = subst (λ (q : List Edge). HaveBegun y q) cut h.active_begun in
    let le : h.low ≤ℤ (edge_at active i).x = order.0 in
    let low_in = h.low_in in
    let left : leftmost ≤ℤ (edge_at active i).x = omega (arith, ints) in
    record {
      state = record {
        i_in = omega arith;
        j_in = h.j_in;
        low = (edge_at active i).x;
        low_in = left;
        active_order = order.1;
        active_begun = begun.1;
        edges_next = next_to y h.low (edge_at active i).x edges j first h.edges_next;
        out_order = order_push leftmost h.low out (edge_at active i) left le h.out_up_to h.out_order;
        out_up_to = upto_push (edge_at active i).x out (edge_at active i) (omega (arith, ints)) (upto_raised h.low (edge_at active i).x out le h.out_up_to);
        out_crossing = crossing_push y out (edge_at active i) begun.0 above h.out_crossing;
      };
      sums = λ test field ignores. regroup_first (sum_where test field out) _ _ _ _ (sum_where test field (drop j edges)) (sum_push test field out (edge_at active i)) (one_less test field active i lt);
      on = λ e. omega arith;
      not_back = omega arith;
      end = λ e. cc;
    }

pub take_starting : (y : ℤ) (active edges : List Edge) (i j : ℕ) (out : List Edge) → MergeState y active edges i j out → j < length edges → (edge_at edges j).y1 ≤ℤ y → (i < length active → (edge_at edges j).x ≤ℤ (edge_at active i).x) → Takes y active edges i i j (j + 1) out (out ++ edge_at edges j ∷ []) true
take_starting y active edges i j out h lt begun first =
    let cut = cut_edges edges j lt in
    let next = subst (λ (q : List Edge). AreNext y h.low q) cut h.edges_next in
    let here = begins_at y h.low (edge_at edges j) begun next.0 in
    let le : h.low ≤ℤ (edge_at edges j).x = here.1 in
    let e : y ≡ (edge_at edges j).y1 = here.0 in
    let left : leftmost ≤ℤ (edge_at edges j).x = next.1 in
    let some = next.2 in
    record {
      state = record {
        i_in = h.i_in;
        j_in = omega arith;
        low = (edge_at edges j).x;
        low_in = left;
        active_order = order_to h.low (edge_at edges j).x active i first h.active_order;
        active_begun = h.active_begun;
        edges_next = subst (λ (q : ℤ). AreNext q (edge_at edges j).x (drop (j + 1) edges)) (sym e) next.3;
        out_order = order_push leftmost h.low out (edge_at edges j) left le h.out_up_to h.out_order;
        out_up_to = upto_push (edge_at edges j).x out (edge_at edges j) (omega (arith, ints)) (upto_raised h.low (edge_at edges j).x out le h.out_up_to);
        out_crossing = crossing_push y out (edge_at edges j) begun (omega (arith, ints)) h.out_crossing;
      };
      sums = λ test field ignores. regroup_second (sum_where test field out) _ _ (sum_where test field (drop i active)) _ _ (sum_push test field out (edge_at edges j)) (one_less test field edges j lt);
      on = λ e. omega arith;
      not_back = omega arith;
      end = λ e. cc;
    }

zero_left : (a : ℤ) → (pos 0 +ℤ a) ≡ a
zero_left a = omega (arith, ints)

pub merge_none : (y : ℤ) (active edges : List Edge) (at : ℕ) → IsReady y active edges at → MergeSoFar y active edges at 0 at [] true
merge_none y active edges at h = record {
  state = record {
    i_in = omega arith;
    j_in = h.at_in;
    low = leftmost;
    low_in = omega (arith, ints);
    active_order = h.order;
    active_begun = h.begun;
    edges_next = h.next;
    out_order = tt;
    out_up_to = tt;
    out_crossing = tt;
  };
  sums = λ test field ignores. zero_left (sum_where test field active +ℤ sum_where test field (drop at edges));
  end = λ e. cc;
}

pub merge_more : (y : ℤ) (active edges : List Edge) (at i j i' j' : ℕ) (out out' : List Edge) (m more : Bool) → MergeSoFar y active edges at i j out m → Takes y active edges i i' j j' out out' more → MergeSoFar y active edges at i' j' out' more
merge_more y active edges at i j i' j' out out' m more h t = record {
  state = t.state;
  sums = λ test field ignores. t.sums test field ignores ∙ h.sums test field ignores;
  end = t.end;
}

pub merge_all : (y : ℤ) (active edges : List Edge) (at i j : ℕ) (out : List Edge) (m : Bool) → m ≡ false → MergeSoFar y active edges at i j out m → Merged y active edges at j out
merge_all y active edges at i j out m e h =
    let n = h.end e in
    record {
      at_in = h.state.j_in;
      order = h.state.out_order;
      crossing = h.state.out_crossing;
      low = h.state.low;
      next = h.state.edges_next;
      later = n.1;
      sums = λ test field ignores.
          let none : sum_where test field (drop i active) ≡ pos 0 = ap (λ (q : List Edge). sum_where test field q) (drop_all i active n.0) in
          without (sum_where test field out) (sum_where test field (drop i active)) (sum_where test field (drop j edges)) _ none (h.sums test field ignores);
    }
  where
    without : (o a s t : ℤ) → a ≡ pos 0 → (o +ℤ (a +ℤ s)) ≡ t → (o +ℤ s) ≡ t
    without o a s t z g = omega (arith, ints)

-- the end of the strip

end_lower : (a b : ℤ) (xs : List Edge) → b ≤ℤ a → EndFrom a xs → EndFrom b xs
end_lower a b [] le h = tt
end_lower a b (x ∷ xs) le h = (omega (arith, ints, h.0), end_lower a b xs le h.1)

end_push : (a : ℤ) (xs : List Edge) (e : Edge) → a ≤ℤ e.y2 → EndFrom a xs → EndFrom a (xs ++ e ∷ [])
end_push a [] e le h = (le, tt)
end_push a (x ∷ xs) e le h = (h.0, end_push a xs e le h.1)

pub end_more : (y : ℤ) (active edges : List Edge) (at i : ℕ) (end end' : ℤ) → EndSoFar y active edges at i end → i < length active → (end' ≡ (edge_at active i).y2) × ((edge_at active i).y2 <ℤ end) ⊎ (end' ≡ end) × (end ≤ℤ (edge_at active i).y2) → EndSoFar y active edges at (i + 1) end'
end_more y active edges at i end end' h lt (inl f) =
    let cut = cut_edges active i lt in
    let more = take_more active i (record { x = pos 0; y1 = pos 0; y2 = pos 0; first = pos 0; second = pos 0 }) lt in
    let rest = subst (λ (q : List Edge). AreCrossing y q) cut h.rest in
    let f0 = f.0 in let f1 = f.1 in let r1 = rest.1 in
    record {
      some = omega (arith, ints);
      ends = subst (λ (q : List Edge). EndFrom end' q) (sym more) (end_push end' (take i active) (edge_at active i) (omega (arith, ints)) (end_lower end end' (take i active) (omega (arith, ints)) h.ends));
      rest = rest.2;
      later = λ l. let k = h.later l in omega (arith, ints);
    }
end_more y active edges at i end end' h lt (inr f) =
    let cut = cut_edges active i lt in
    let more = take_more active i (record { x = pos 0; y1 = pos 0; y2 = pos 0; first = pos 0; second = pos 0 }) lt in
    let rest = subst (λ (q : List Edge). AreCrossing y q) cut h.rest in
    let f0 = f.0 in let f1 = f.1 in let some = h.some in
    record {
      some = omega (arith, ints);
      ends = subst (λ (q : List Edge). EndFrom end' q) (sym more) (end_push end' (take i active) (edge_at active i) (omega (arith, ints)) (end_lower end end' (take i active) (omega (arith, ints)) h.ends));
      rest = rest.2;
      later = λ l. let k = h.later l in omega (arith, ints);
    }
