-- The left nodes of classes, and where they stand.
use Rattle.std.proofs.Common.{◌≡◌, ◌≢◌, inl, inr, ◌<◌, ◌≤◌, ◌+◌, ℕ, zero, suc, List, [], ◌∷◌, ◌++◌, length, map, slice_index, slice_index_or, slice_set, refl, sym, subst, ◌∙◌, ap, arith, length-append}
use Rattle.std.specs.Prelude.{Vec}
use Rattle.std.specs.Global.{Global}
use Rattle.std.specs.List.{Contains}
use Rattle.std.specs.List.Sorted.{IsPermutation, IsSorted}
use Rattle.std.specs.Ordering.{nat_cmp}
use Rattle.std.specs.BinaryHeap.{IsHeap, heap_items}
use Rattle.std.specs.declared.collections.BinaryHeap.{BinaryHeap}
use Rattle.std.specs.declared.cmp.Reverse.{Reverse}
use Rattle.std.proofs.Math.Decide.{ℕ_discrete}
use Rattle.std.proofs.lemmas.Bool.{cases_lt}
use Rattle.std.proofs.lemmas.List.{get_or_append_left, get_or_push, get_or-set_same, get_or-set_other, length-set}
use Rattle.std.proofs.lemmas.List.Sorted.{Contains-permutation, IsPermutation-sym, IsNonDecreasingBy-from_sort}
use Rattle.match_parts.proofs.Read.{read}
use Rattle.match_rounds.specs.Turned.{AreAllOf}
use Rattle.match_rounds.proofs.Counting.{any_index}
use Rattle.match_graph.specs.declared.graph.Graph.{Graph}
use Rattle.match_graph.specs.Graph.{left_of}
use Rattle.match_rounds.specs.declared.classes.Classes.{Classes}
use Rattle.match_rounds.specs.Classes.{class_in}
use Rattle.match_rounds.specs.Sides.{left_members}
use Rattle.refine_match.specs.declared.ties.Span.{Span}
use Rattle.refine_match.specs.declared.ties.Tie.{Tie}
use Rattle.refine_match.specs.declared.ties.Ties.{Ties}
use Rattle.refine_match.specs.Ties.{AreInOrder, AreWithin, AreRenewed, AreSpansOf, AreTaken, HasTie, IsFirstIn, IsRenewed, IsSpanOf, IsTieOf, lefts_of, span_at, ties_in, tie_order, told_in}
use Rattle.refine_match.proofs.Tied.{some_left}
use Rattle.refine_match.proofs.Entered.{now_there, still_there}

pub none_taken_yet : (xs nodes : List ℕ) (from to : ℕ) → xs ≡ [] → AreWithin xs nodes 0 from to
none_taken_yet xs nodes from to e = record {
  within = λ k l. let long : length xs ≡ 0 = ap length e in absurd (omega arith);
  found = λ j l m n. absurd (omega arith);
}

-- one node more was looked at
pub one_taken : (xs ys nodes : List ℕ) (i from to x : ℕ) → AreWithin xs nodes i from to → x ≡ slice_index nodes i → from ≤ x → x < to → ys ≡ xs ++ x ∷ [] → AreWithin ys nodes (i + 1) from to
one_taken xs ys nodes i from to x h is low high e =
    let long : length ys ≡ length xs + 1 = ap length e ∙ length-append xs (x ∷ []) in
    let before : (k : ℕ) → k < length xs → slice_index ys k ≡ slice_index xs k = λ k l. ap (λ (zs : List ℕ). slice_index zs k) e ∙ get_or_append_left xs (x ∷ []) 0 k l in
    let last : slice_index ys (length xs) ≡ x = ap (λ (zs : List ℕ). slice_index zs (length xs)) e ∙ get_or_push xs x 0 (length xs) refl in
    record {
      within = λ k l. elim (cases_lt k (length xs)) [
        | inl u ↦ subst (λ (y : ℕ). (from ≤ y) × (y < to)) (sym (before k u)) (h.within k u)
        | inr u ↦ let at : length xs ≡ k = omega arith in subst (λ (j : ℕ). (from ≤ slice_index ys j) × (slice_index ys j < to)) at (subst (λ (y : ℕ). (from ≤ y) × (y < to)) (sym last) (low, high))
      ];
      found = λ j l m n. elim (cases_lt j i) [
        | inl u ↦ let r = h.found j u m n in let hi = r.1 in (r.0, omega arith, before r.0 r.1 ∙ r.2)
        | inr u ↦ let at : i ≡ j = omega arith in (length xs, omega arith, last ∙ (is ∙ ap (slice_index nodes) at))
      ];
    }

pub one_passed : (xs nodes : List ℕ) (i from to : ℕ) → AreWithin xs nodes i from to → (from ≤ slice_index nodes i → slice_index nodes i < to → ⊥) → AreWithin xs nodes (i + 1) from to
one_passed xs nodes i from to h out = record {
  within = h.within;
  found = λ j l m n. elim (cases_lt j i) [
    | inl u ↦ h.found j u m n
    | inr u ↦ let at : j ≡ i = omega arith in absurd (out (subst (λ (k : ℕ). from ≤ slice_index nodes k) at m) (subst (λ (k : ℕ). slice_index nodes k < to) at n))
  ];
}

-- an element stands at its place, whatever is read beyond the end
at_place : (xs : List ℕ) (x k : ℕ) → k < length xs → slice_index_or xs k x ≡ slice_index xs k
at_place [] x k l = absurd (omega arith)
at_place (y ∷ xs) x zero l = refl
at_place (y ∷ xs) x (suc k) l = at_place xs x k (omega arith)

has_at : (xs : List ℕ) (k : ℕ) → k < length xs → Contains xs (slice_index xs k)
has_at xs k l = (k, l, at_place xs (slice_index xs k) k l)

found_at : (xs : List ℕ) (x : ℕ) → Contains xs x → (k : ℕ) × (k < length xs) × (slice_index xs k ≡ x)
found_at xs x h = (h.0, h.1, sym (at_place xs x h.0 h.1) ∙ h.2)

-- those of a class's nodes that are between two numbers, in order
pub in_order : (items xs ys : List ℕ) (class : ℕ → ℕ) (from to n d : ℕ) → AreAllOf class d items n → to ≤ n → AreWithin xs items (length items) from to → IsPermutation xs ys → IsSorted nat_cmp ys → AreInOrder ys class from to d
in_order items xs ys class from to n d all inside taken perm sorted = record {
  within = λ k l.
      let r = found_at xs (slice_index ys k) (Contains-permutation ys xs (slice_index ys k) (IsPermutation-sym xs ys perm) (has_at ys k l)) in
      subst (λ (x : ℕ). (from ≤ x) × (x < to)) r.2 (taken.within r.0 r.1);
  rising = λ j k m l. IsNonDecreasingBy-from_sort (λ x. x) ys sorted j k 0 m l;
  found = λ a low l e.
      let place = any_index items a (all.found a (omega arith) e) in
      let r = taken.found place.0 place.1 (subst (λ (x : ℕ). from ≤ x) (sym place.2) low) (subst (λ (x : ℕ). x < to) (sym place.2) l) in
      let is : slice_index xs r.0 ≡ a = r.2 ∙ place.2 in
      found_at ys a (Contains-permutation xs ys a perm (subst (λ (x : ℕ). Contains xs x) is (has_at xs r.0 r.1)));
}

-- a class's span without what left the class
pub span_from : (nodes : List ℕ) (s : Span) (class : ℕ → ℕ) (from to d place : ℕ) → IsSpanOf nodes s class from to d → IsFirstIn nodes class d s.next s.end place
    → IsSpanOf nodes (let u : Span = record { next = place; end = s.end } in u) class from to d
span_from nodes s class from to d place h first = record {
  fits = h.fits;
  within = λ k l m. let low = (first.inside (omega arith)).0 in h.within k (omega arith) m;
  rising = λ j k l m n. let low = (first.inside (omega arith)).0 in h.rising j k (omega arith) m n;
  found = λ a low l e.
      let r = h.found a low l e in
      elim (cases_lt r.0 place) [
        | inl u ↦ absurd (first.none r.0 r.1 u (ap class r.3 ∙ e))
        | inr u ↦ (r.0, u, r.2, r.3)
      ];
}

-- a tied class has a node in its span
pub has_node : (nodes : List ℕ) (s : Span) (class : ℕ → ℕ) (left d : ℕ) → IsSpanOf nodes s class 0 left d → 1 < lefts_of class left d → s.next < s.end
has_node nodes s class left d h more =
    let a = some_left class left d more in
    let r = h.found a.0 (omega arith) a.1 a.2 in
    let lo = r.1 in
    let hi = r.2 in
    omega arith

-- the entry of a class
pub entry_is : (nodes : List ℕ) (s : Span) (class : ℕ → ℕ) (left d count node : ℕ) → IsSpanOf nodes s class 0 left d → s.next < s.end → node ≡ slice_index nodes s.next → class node ≡ d → count ≡ lefts_of class left d
    → IsTieOf class left d (let t : Tie = record { count = count; node = node } in t)
entry_is nodes s class left d count node h some is of count_is = record {
  count = count_is;
  below = subst (λ (x : ℕ). x < left) (sym is) (h.within s.next (omega arith) some).1;
  of = of;
  first = λ a l e.
      let r = h.found a (omega arith) l e in
      let up = h.rising s.next r.0 (omega arith) r.1 r.2 in
      let at = r.3 in
      omega arith;
}

-- the spans when one of them was changed
pub spans_set : (nodes : List ℕ) (spans : List Span) (class : ℕ → ℕ) (from to d : ℕ) (s : Span) → ((x : ℕ) → x < length spans → IsSpanOf nodes (slice_index_or spans x record { next = 0; end = 0 }) class from to x) → d < length spans → IsSpanOf nodes s class from to d
    → (x : ℕ) → x < length (slice_set spans d s) → IsSpanOf nodes (slice_index_or (slice_set spans d s) x record { next = 0; end = 0 }) class from to x
spans_set nodes spans class from to d s all low span x l = elim (ℕ_discrete x d) [
  | yes e ↦
      subst (λ (y : ℕ). IsSpanOf nodes (slice_index_or (slice_set spans d s) y record { next = 0; end = 0 }) class from to y) (sym e)
      (subst (λ (u : Span). IsSpanOf nodes u class from to d) (sym (get_or-set_same spans d s (record { next = 0; end = 0 }) low)) span)
  | no not ↦
      let same : length (slice_set spans d s) ≡ length spans = length-set spans d s in
      subst (λ (u : Span). IsSpanOf nodes u class from to x) (sym (get_or-set_other spans d x s (record { next = 0; end = 0 }) not)) (all x (omega arith))
]

-- a span as it was read
pub span_read : (spans : List Span) (k : ℕ) (s : Span) → k < length spans → s ≡ slice_index_or spans k s → s ≡ slice_index_or spans k record { next = 0; end = 0 }
span_read [] k s l e = absurd (omega arith)
span_read (x ∷ xs) zero s l e = e
span_read (x ∷ xs) (suc k) s l e = span_read xs k s (omega arith) e

-- a class without a tie is renewed by its span alone
pub renewed_untied : (t : Ties) (g : Graph) (c : Classes) (d place : ℕ) (s : Span) (vs : Vec Span Global) → AreSpansOf t g c → IsHeap tie_order (heap_items t.queue) → d < length t.spans.items → s ≡ span_at t d
    → IsFirstIn t.nodes.items (class_in c) d s.next s.end place → vs.items ≡ slice_set t.spans.items d (let u : Span = record { next = place; end = s.end } in u) → left_members g c d ≤ 1
    → IsRenewed t (let u : Ties = record { nodes = t.nodes; spans = vs; class_of = t.class_of; queue = t.queue } in u) g c d
renewed_untied t g c d place s vs spans ordered low is first set few = record {
  told = refl;
  nodes = refl;
  count = ap length set ∙ length-set t.spans.items d _;
  spans = subst (λ (xs : List Span). (x : ℕ) → x < length xs → IsSpanOf t.nodes.items (slice_index_or xs x record { next = 0; end = 0 }) (class_in c) 0 (left_of g) x) (sym set)
      (spans_set t.nodes.items t.spans.items (class_in c) 0 (left_of g) d (record { next = place; end = s.end }) spans low
      (span_from t.nodes.items s (class_in c) 0 (left_of g) d place (subst (λ (u : Span). IsSpanOf t.nodes.items u (class_in c) 0 (left_of g) d) (sym is) (spans d low)) first));
  ordered = ordered;
  kept = λ e there. there;
  entered = λ more. absurd (omega arith);
}

-- a tied class is renewed by its entry too
pub renewed_tied : (t : Ties) (g : Graph) (c : Classes) (d place : ℕ) (s : Span) (vs : Vec Span Global) (tie : Tie) (q : BinaryHeap (Reverse Tie) Global) (x : Reverse Tie) → AreSpansOf t g c → IsHeap tie_order (heap_items q) → d < length t.spans.items → s ≡ span_at t d
    → IsFirstIn t.nodes.items (class_in c) d s.next s.end place → vs.items ≡ slice_set t.spans.items d (let u : Span = record { next = place; end = s.end } in u) → tie.count ≡ left_members g c d → tie.node ≡ slice_index t.nodes.items place
    → 1 < left_members g c d → x.0 ≡ tie → IsPermutation (x ∷ heap_items t.queue) (heap_items q)
    → IsRenewed t (let u : Ties = record { nodes = t.nodes; spans = vs; class_of = t.class_of; queue = q } in u) g c d
renewed_tied t g c d place s vs tie q x spans ordered low is first set count node more of perm =
    let shorter : Span = record { next = place; end = s.end } in
    let span : IsSpanOf t.nodes.items shorter (class_in c) 0 (left_of g) d = span_from t.nodes.items s (class_in c) 0 (left_of g) d place (subst (λ (u : Span). IsSpanOf t.nodes.items u (class_in c) 0 (left_of g) d) (sym is) (spans d low)) first in
    let some = has_node t.nodes.items shorter (class_in c) (left_of g) d span more in
    let at = first.inside some in
    record {
      told = refl;
      nodes = refl;
      count = ap length set ∙ length-set t.spans.items d _;
      spans = subst (λ (xs : List Span). (y : ℕ) → y < length xs → IsSpanOf t.nodes.items (slice_index_or xs y record { next = 0; end = 0 }) (class_in c) 0 (left_of g) y) (sym set)
          (spans_set t.nodes.items t.spans.items (class_in c) 0 (left_of g) d shorter spans low span);
      ordered = ordered;
      kept = λ e there. still_there x (heap_items t.queue) (heap_items q) e perm there;
      entered = λ m. record {
        tie = tie;
        there = subst (λ (u : Tie). Contains (map (λ (r : Reverse Tie). r.0) (heap_items q)) u) of (now_there x (heap_items t.queue) (heap_items q) perm);
        is = entry_is t.nodes.items shorter (class_in c) (left_of g) d tie.count tie.node span some node (ap (class_in c) node ∙ at.1) count;
      };
    }

-- two classes more were renewed
pub renewed_more : (old mid late new : Ties) (g : Graph) (c : Classes) (from k d e : ℕ) → AreRenewed old mid g c from k → IsRenewed mid late g c d → IsRenewed late new g c e → d ≡ told_in old (slice_index old.nodes.items k) → e ≡ class_in c (slice_index old.nodes.items k)
    → AreRenewed old new g c from (k + 1)
renewed_more old mid late new g c from k d e h a b is_d is_e = record {
  told = b.told ∙ (a.told ∙ h.told);
  nodes = b.nodes ∙ (a.nodes ∙ h.nodes);
  count = b.count ∙ (a.count ∙ h.count);
  spans = b.spans;
  ordered = b.ordered;
  kept = λ t there. b.kept t (a.kept t (h.kept t there));
  former = λ j l m more. elim (cases_lt j k) [
    | inl u ↦
        let r = h.former j l u more in
        record { tie = r.tie; there = b.kept r.tie (a.kept r.tie r.there); is = r.is }
    | inr u ↦
        let at : k ≡ j = omega arith in
        let same : d ≡ told_in old (slice_index old.nodes.items j) = is_d ∙ ap (λ (i : ℕ). told_in old (slice_index old.nodes.items i)) at in
        let r = subst (λ (x : ℕ). HasTie (class_in c) (left_of g) (ties_in late) x) same a.entered more in
        record { tie = r.tie; there = b.kept r.tie r.there; is = r.is }
  ];
  entered = λ j l m more. elim (cases_lt j k) [
    | inl u ↦
        let r = h.entered j l u more in
        record { tie = r.tie; there = b.kept r.tie (a.kept r.tie r.there); is = r.is }
    | inr u ↦
        let at : k ≡ j = omega arith in
        let same : e ≡ class_in c (slice_index old.nodes.items j) = is_e ∙ ap (λ (i : ℕ). class_in c (slice_index old.nodes.items i)) at in
        subst (λ (x : ℕ). HasTie (class_in c) (left_of g) (ties_in new) x) same b.entered more
  ];
}

pub none_renewed : (t : Ties) (g : Graph) (c : Classes) (from : ℕ) → AreSpansOf t g c → IsHeap tie_order (heap_items t.queue) → AreRenewed t t g c from from
none_renewed t g c from spans ordered = record {
  told = refl;
  nodes = refl;
  count = refl;
  spans = spans;
  ordered = ordered;
  kept = λ e there. there;
  former = λ k l m. absurd (omega arith);
  entered = λ k l m. absurd (omega arith);
}

-- one node more has its class
pub taken_more : (old mid new : Ties) (g : Graph) (c : Classes) (from k node class : ℕ) → AreTaken old mid g c from k → node ≡ slice_index old.nodes.items k → node < length mid.class_of.items → class ≡ class_in c node
    → new.nodes ≡ mid.nodes → new.spans ≡ mid.spans → new.queue ≡ mid.queue → new.class_of.items ≡ slice_set mid.class_of.items node class → AreTaken old new g c from (k + 1)
taken_more old mid new g c from k node class h is below class_is nodes spans queue set =
    let here : told_in new node ≡ class_in c node = ap (λ (xs : List ℕ). slice_index xs node) set ∙ (get_or-set_same mid.class_of.items node class 0 below ∙ class_is) in
    let there : (a : ℕ) → a ≢ node → told_in new a ≡ told_in mid a = λ a not. ap (λ (xs : List ℕ). slice_index xs a) set ∙ get_or-set_other mid.class_of.items node a class 0 not in
    record {
      nodes = nodes ∙ h.nodes;
      spans = spans ∙ h.spans;
      queue = queue ∙ h.queue;
      long = ap length set ∙ (length-set mid.class_of.items node class ∙ h.long);
      taken = λ j l m. elim (ℕ_discrete (slice_index old.nodes.items j) node) [
        | yes e ↦ subst (λ (x : ℕ). told_in new x ≡ class_in c x) (sym e) here
        | no not ↦ elim (cases_lt j k) [
          | inl u ↦ there (slice_index old.nodes.items j) not ∙ h.taken j l u
          | inr u ↦ let at : j ≡ k = omega arith in absurd (not (ap (slice_index old.nodes.items) at ∙ sym is))
        ]
      ];
      rest = λ a. elim (ℕ_discrete a node) [
        | yes e ↦ inr (subst (λ (x : ℕ). told_in new x ≡ class_in c x) (sym e) here)
        | no not ↦ elim (h.rest a) [
          | inl f ↦ inl (there a not ∙ f)
          | inr f ↦ inr (there a not ∙ f)
        ]
      ];
    }

pub none_taken : (t : Ties) (g : Graph) (c : Classes) (from : ℕ) → AreTaken t t g c from from
none_taken t g c from = record {
  nodes = refl;
  spans = refl;
  queue = refl;
  long = refl;
  taken = λ k l m. absurd (omega arith);
  rest = λ a. inl refl;
}

-- what is taken beyond a place is taken up to it
pub taken_to : (old new : Ties) (g : Graph) (c : Classes) (from k to : ℕ) → AreTaken old new g c from k → to ≤ k → AreTaken old new g c from to
taken_to old new g c from k to h less = record {
  nodes = h.nodes;
  spans = h.spans;
  queue = h.queue;
  long = h.long;
  taken = λ j l m. h.taken j l (omega arith);
  rest = h.rest;
}

pub renewed_to : (old new : Ties) (g : Graph) (c : Classes) (from k to : ℕ) → AreRenewed old new g c from k → to ≤ k → AreRenewed old new g c from to
renewed_to old new g c from k to h less = record {
  told = h.told;
  nodes = h.nodes;
  count = h.count;
  spans = h.spans;
  ordered = h.ordered;
  kept = h.kept;
  former = λ j l m. h.former j l (omega arith);
  entered = λ j l m. h.entered j l (omega arith);
}

-- a tied class has a node at the first of the places that has one of its nodes
pub some_place : (t : Ties) (g : Graph) (c : Classes) (d place : ℕ) (s : Span) (nodes : List ℕ) → AreSpansOf t g c → d < length t.spans.items → s ≡ span_at t d → nodes ≡ t.nodes.items → IsFirstIn nodes (class_in c) d s.next s.end place → 1 < left_members g c d
    → place < length nodes
some_place t g c d place s nodes spans low is same first more =
    let span = subst (λ (u : Span). IsSpanOf t.nodes.items u (class_in c) 0 (left_of g) d) (sym is) (spans d low) in
    let shorter : Span = record { next = place; end = s.end } in
    let at = has_node t.nodes.items shorter (class_in c) (left_of g) d (span_from t.nodes.items s (class_in c) 0 (left_of g) d place span (subst (λ (xs : List ℕ). IsFirstIn xs (class_in c) d s.next s.end place) same first)) more in
    let fits = span.fits in
    let long = ap length same in
    omega arith

-- the node at hand while classes are taken, and while they are renewed
pub node_taken : (old mid : Ties) (g : Graph) (c : Classes) (from k node : ℕ) → AreTaken old mid g c from k → k < length old.nodes.items → node ≡ slice_index_or mid.nodes.items k node → node ≡ slice_index old.nodes.items k
node_taken old mid g c from k node h l e = read old.nodes.items k node l (subst (λ (v : Vec ℕ Global). node ≡ slice_index_or v.items k node) h.nodes e)

pub node_renewed : (old mid : Ties) (g : Graph) (c : Classes) (from k node : ℕ) → AreRenewed old mid g c from k → k < length old.nodes.items → node ≡ slice_index_or mid.nodes.items k node → node ≡ slice_index old.nodes.items k
node_renewed old mid g c from k node h l e = read old.nodes.items k node l (subst (λ (v : Vec ℕ Global). node ≡ slice_index_or v.items k node) h.nodes e)

-- the class that a node was of, as it was read
pub told_read : (old mid : Ties) (g : Graph) (node class : ℕ) → length old.class_of.items ≡ left_of g → node < left_of g → mid.class_of ≡ old.class_of → class ≡ slice_index_or mid.class_of.items node class → class ≡ told_in old node
told_read old mid g node class long low same e = read old.class_of.items node class (omega arith) (subst (λ (v : Vec ℕ Global). class ≡ slice_index_or v.items node class) same e)
