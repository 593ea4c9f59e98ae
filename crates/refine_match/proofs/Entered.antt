-- Entries of tied classes in their queue.
use Rattle.std.proofs.Common.{◌≡◌, ◌⊎◌, inl, inr, ◌<◌, ◌≤◌, ℕ, zero, suc, false, List, [], ◌∷◌, length, map, slice_index_or, refl, sym, subst, ◌∙◌, ap, arith, true≢false}
use Rattle.std.specs.Global.{Global}
use Rattle.std.specs.List.{Contains}
use Rattle.std.specs.List.Sorted.{IsPermutation}
use Rattle.std.specs.BinaryHeap.{IsHeap, IsUpperBound, heap_items, heap_len}
use Rattle.std.specs.declared.collections.BinaryHeap.{BinaryHeap}
use Rattle.std.specs.declared.cmp.Reverse.{Reverse}
use Rattle.std.specs.declared.cmp.Ordering.{Ordering}
use Rattle.std.specs.declared.cmp.Ordering.TheVariants.{Less, Equal, Greater}
use Rattle.std.specs.Ordering.{nat_cmp, ordering_then, is_lt}
use Rattle.std.proofs.lemmas.Bool.{cases_lt}
use Rattle.std.proofs.lemmas.Cmp.{ranked}
use Rattle.std.proofs.lemmas.List.Sorted.{Contains-permutation, IsPermutation-map}
use Rattle.match_graph.specs.declared.graph.Graph.{Graph}
use Rattle.match_graph.specs.Graph.{left_of, nodes_of}
use Rattle.match_rounds.specs.declared.classes.Classes.{Classes}
use Rattle.match_rounds.specs.Classes.{IsPartition, class_in}
use Rattle.match_rounds.specs.Sides.{left_members}
use Rattle.refine_match.specs.Choosing.{AreUntied, IsLeastTied, tied_with}
use Rattle.refine_match.specs.declared.ties.Tie.{Tie}
use Rattle.refine_match.specs.declared.ties.Ties.{Ties}
use Rattle.refine_match.specs.Ties.{AreTiesOf, IsNoLaterEntry, IsRight, IsTieOf, lefts_of, ties_in, tie_order}

abbrev tie_of : Reverse Tie → Tie
tie_of r = r.0

abbrev entries : List (Reverse Tie) → List Tie
entries rs = map (λ (r : Reverse Tie). r.0) rs

by_node : (m n : ℕ) (o : Ordering) → o ≡ nat_cmp n m → is_lt o ≡ false → m ≤ n
by_node m n Less e h = absurd (true≢false h)
by_node m n Equal e h = let r : n ≡ m = ranked n m Equal e in omega arith
by_node m n Greater e h = let r : m < n = ranked n m Greater e in omega arith

by_count : (t u : Tie) (o : Ordering) → o ≡ nat_cmp u.count t.count → is_lt (ordering_then o (nat_cmp u.node t.node)) ≡ false → IsNoLaterEntry t u
by_count t u Less e h = absurd (true≢false h)
by_count t u Equal e h = let r : u.count ≡ t.count = ranked u.count t.count Equal e in inr (sym r, by_node t.node u.node (nat_cmp u.node t.node) refl h)
by_count t u Greater e h = inl (ranked u.count t.count Greater e)

-- no entry comes before the one that a queue gives
first_at : (x : Reverse Tie) (rs : List (Reverse Tie)) (u : Tie) (k : ℕ) → IsUpperBound tie_order x rs → k < length (entries rs) → slice_index_or (entries rs) k u ≡ u → IsNoLaterEntry x.0 u
first_at x [] u k h l e = absurd (omega arith)
first_at x (r ∷ rs) u zero h l e = subst (λ (v : Tie). IsNoLaterEntry x.0 v) e (by_count x.0 r.0 (nat_cmp r.0.count x.0.count) refl h.0)
first_at x (r ∷ rs) u (suc k) h l e = first_at x rs u k h.1 (omega arith) e

pub first_of_all : (x : Reverse Tie) (rs : List (Reverse Tie)) (u : Tie) → IsUpperBound tie_order x rs → Contains (entries rs) u → IsNoLaterEntry x.0 u
first_of_all x rs u h there = first_at x rs u there.0 h there.1 there.2

-- what a push leaves
pub still_there : (x : Reverse Tie) (rs us : List (Reverse Tie)) (t : Tie) → IsPermutation (x ∷ rs) us → Contains (entries rs) t → Contains (entries us) t
still_there x rs us t perm there =
    let l = there.1 in
    Contains-permutation (entries (x ∷ rs)) (entries us) t (IsPermutation-map tie_of (x ∷ rs) us perm) (suc there.0, omega arith, there.2)

pub now_there : (x : Reverse Tie) (rs us : List (Reverse Tie)) → IsPermutation (x ∷ rs) us → Contains (entries us) x.0
now_there x rs us perm = Contains-permutation (entries (x ∷ rs)) (entries us) x.0 (IsPermutation-map tie_of (x ∷ rs) us perm) (0, omega arith, refl)

-- what a pop leaves
head_or_rest : (x t : Tie) (ts : List Tie) (k : ℕ) → k < length (x ∷ ts) → slice_index_or (x ∷ ts) k t ≡ t → (x ≡ t) ⊎ Contains ts t
head_or_rest x t ts zero l e = inl e
head_or_rest x t ts (suc k) l e = inr (k, omega arith, e)

pub popped_or_there : (x : Reverse Tie) (rs us : List (Reverse Tie)) (t : Tie) → IsPermutation rs (x ∷ us) → Contains (entries rs) t → (x.0 ≡ t) ⊎ Contains (entries us) t
popped_or_there x rs us t perm there =
    let c = Contains-permutation (entries rs) (entries (x ∷ us)) t (IsPermutation-map tie_of rs (x ∷ us) perm) there in
    head_or_rest x.0 t (entries us) c.0 c.1 c.2

-- the entry of a tied class is right
right_entry : (g : Graph) (c : Classes) (d : ℕ) (t : Tie) → 1 < lefts_of (class_in c) (left_of g) d → IsTieOf (class_in c) (left_of g) d t → IsRight g c t
right_entry g c d t more is =
    let count = is.count in
    let same : tied_with g c t.node ≡ lefts_of (class_in c) (left_of g) d = ap (left_members g c) is.of in
    (omega arith, is.below, omega arith)

-- another queue that has the right entries
pub with_queue : (t : Ties) (g : Graph) (c : Classes) (q : BinaryHeap (Reverse Tie) Global) → AreTiesOf t g c → IsHeap tie_order (heap_items q) → ((e : Tie) → IsRight g c e → Contains (ties_in t) e → Contains (entries (heap_items q)) e)
    → AreTiesOf (let u : Ties = record { nodes = t.nodes; spans = t.spans; class_of = t.class_of; queue = q } in u) g c
with_queue t g c q h ordered keeps = record {
  long = h.long;
  told = h.told;
  count = h.count;
  spans = h.spans;
  ties = λ d l more.
      let e = h.ties d l more in
      record { tie = e.tie; there = keeps e.tie (right_entry g c d e.tie more e.is) e.there; is = e.is };
  ordered = ordered;
}

-- an entry that isn't right went
pub wrong_gone : (t : Ties) (g : Graph) (c : Classes) (q : BinaryHeap (Reverse Tie) Global) (x : Reverse Tie) → AreTiesOf t g c → (IsRight g c x.0 → ⊥) → IsPermutation (heap_items t.queue) (x ∷ heap_items q) → IsHeap tie_order (heap_items q)
    → AreTiesOf (let u : Ties = record { nodes = t.nodes; spans = t.spans; class_of = t.class_of; queue = q } in u) g c
wrong_gone t g c q x h wrong perm ordered = with_queue t g c q h ordered (λ e right there. elim (popped_or_there x (heap_items t.queue) (heap_items q) e perm there) [
  | inl is ↦ absurd (wrong (subst (λ (v : Tie). IsRight g c v) (sym is) right))
  | inr stays ↦ stays
])

-- an entry went and came back
pub back_again : (t : Ties) (g : Graph) (c : Classes) (p q : BinaryHeap (Reverse Tie) Global) (x : Reverse Tie) → AreTiesOf t g c → IsPermutation (heap_items t.queue) (x ∷ heap_items p) → IsPermutation (x ∷ heap_items p) (heap_items q)
    → IsHeap tie_order (heap_items q) → AreTiesOf (let u : Ties = record { nodes = t.nodes; spans = t.spans; class_of = t.class_of; queue = q } in u) g c
back_again t g c p q x h out back ordered = with_queue t g c q h ordered (λ e right there. elim (popped_or_there x (heap_items t.queue) (heap_items p) e out there) [
  | inl is ↦ subst (λ (v : Tie). Contains (entries (heap_items q)) v) is (now_there x (heap_items p) (heap_items q) back)
  | inr stays ↦ still_there x (heap_items p) (heap_items q) e back stays
])

-- a right entry that comes before all is that of the node to be guessed
pub least_tied : (t : Ties) (g : Graph) (c : Classes) (x : Reverse Tie) → IsPartition c (left_of g) (nodes_of g) → AreTiesOf t g c → IsUpperBound tie_order x (heap_items t.queue) → IsRight g c x.0 → IsLeastTied g c (left_of g) x.0.node
least_tied t g c x part h first right =
    let is : tied_with g c x.0.node ≡ x.0.count = right.2 in
    let many = right.0 in
    let inside = part.inside in
    record {
      below = right.1;
      tied = omega arith;
      least = λ b l more.
          let e = h.ties (class_in c b) (part.classes.below b (omega arith)) more in
          let count : e.tie.count ≡ tied_with g c b = e.is.count in
          let low = e.is.first b l refl in
          elim (first_of_all x (heap_items t.queue) e.tie first e.there) [
            | inl u ↦ inl (omega arith)
            | inr u ↦ let same = u.0 in let no_later = u.1 in inr (omega arith, omega arith)
          ];
    }

-- without entries no class is tied
pub none_tied : (t : Ties) (g : Graph) (c : Classes) → IsPartition c (left_of g) (nodes_of g) → AreTiesOf t g c → heap_items t.queue ≡ [] → AreUntied g c (left_of g)
none_tied t g c part h empty a l =
    let inside = part.inside in
    elim (cases_lt 1 (tied_with g c a)) [
      | inl more ↦
          let e = h.ties (class_in c a) (part.classes.below a (omega arith)) more in
          let there : Contains (entries []) e.tie = subst (λ (rs : List (Reverse Tie)). Contains (entries rs) e.tie) empty e.there in
          let low = there.1 in
          absurd (omega arith)
      | inr few ↦ omega arith
    ]

-- a queue with the same entries
pub queue_same : (t : Ties) (g : Graph) (c : Classes) (q : BinaryHeap (Reverse Tie) Global) → AreTiesOf t g c → heap_items q ≡ heap_items t.queue → AreTiesOf (let u : Ties = record { nodes = t.nodes; spans = t.spans; class_of = t.class_of; queue = q } in u) g c
queue_same t g c q h same = with_queue t g c q h (subst (λ (rs : List (Reverse Tie)). IsHeap tie_order rs) (sym same) h.ordered) (λ e right there. subst (λ (rs : List (Reverse Tie)). Contains (entries rs) e) (sym same) there)

none_of : (rs : List (Reverse Tie)) → length rs ≡ 0 → rs ≡ []
none_of [] e = refl
none_of (r ∷ rs) e = absurd (omega arith)

pub no_entries : (q : BinaryHeap (Reverse Tie) Global) → heap_len q ≡ 0 → heap_items q ≡ []
no_entries q e = none_of (heap_items q) (sym q.data.ok.0 ∙ e)
