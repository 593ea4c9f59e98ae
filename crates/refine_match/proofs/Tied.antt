-- Ties that follow classes as they are parted.
use Rattle.std.proofs.Common.{◌≡◌, ◌⊎◌, inl, inr, ◌<◌, ◌≤◌, ◌+◌, ◌-◌, ◌==◌, ℕ, zero, suc, List, [], ◌∷◌, ◌++◌, length, map, slice_index, slice_index_or, refl, sym, subst, ◌∙◌, ap, arith, length-append}
use Rattle.base_laws.proofs.Tests.{same_truth}
use Rattle.std.specs.Prelude.{Vec}
use Rattle.std.specs.Global.{Global}
use Rattle.std.specs.List.{Contains}
use Rattle.std.specs.BinaryHeap.{IsHeap, heap_items}
use Rattle.std.specs.declared.collections.BinaryHeap.{BinaryHeap}
use Rattle.std.specs.declared.cmp.Reverse.{Reverse}
use Rattle.std.proofs.Math.Decide.{ℕ_discrete}
use Rattle.std.proofs.lemmas.Bool.{cases_lt}
use Rattle.std.proofs.lemmas.Bool.Decides.{Decides-eqb}
use Rattle.std.proofs.lemmas.List.{get_or_append_left, get_or-append-add, get_or_push}
use Rattle.round_laws.proofs.Agree.{count_same}
use Rattle.match_laws.specs.Circuits.{numbers_from}
use Rattle.match_laws.proofs.Sums.{in_numbers}
use Rattle.match_graph.specs.declared.graph.Graph.{Graph}
use Rattle.match_graph.specs.Graph.{left_of, nodes_of}
use Rattle.match_rounds.specs.declared.classes.Classes.{Classes}
use Rattle.match_rounds.specs.Classes.{IsGrown, IsPartition, class_count, class_in}
use Rattle.refine_match.specs.declared.ties.Span.{Span}
use Rattle.refine_match.specs.declared.ties.Tie.{Tie}
use Rattle.refine_match.specs.declared.ties.Ties.{Ties}
use Rattle.refine_match.specs.Ties.{AreFormer, AreInOrder, AreListed, AreLow, AreMovedFrom, AreRenewed, AreSpansOf, AreTaken, AreTiesOf, HasTie, IsEntered, IsSpanAdded, IsSpanOf, lefts_of, span_at, ties_in, tie_order, told_in}
use Rattle.refine_match.proofs.Chosen.{some_passes}

-- a class has the same left nodes by one numbering and by another
pub record IsOneClass (f h : ℕ → ℕ) (left d : ℕ) : Type 0 where
  pub to : (a : ℕ) → a < left → f a ≡ d → h a ≡ d
  pub from : (a : ℕ) → a < left → h a ≡ d → f a ≡ d

lefts_same : (f h : ℕ → ℕ) (left d : ℕ) → IsOneClass f h left d → lefts_of f left d ≡ lefts_of h left d
lefts_same f h left d one = count_same (λ a. d == f a) (λ a. d == h a) (numbers_from 0 left) (λ a i.
    let b = in_numbers a 0 left i in
    let hi = b.1 in
    let l : a < left = omega arith in
    same_truth (d == f a) (d == h a)
    (λ t. (Decides-eqb d (h a)).1 (sym (one.to a l (sym ((Decides-eqb d (f a)).0 t)))))
    (λ t. (Decides-eqb d (f a)).1 (sym (one.from a l (sym ((Decides-eqb d (h a)).0 t))))))

has_like : (f h : ℕ → ℕ) (left d : ℕ) (ties : List Tie) → IsOneClass f h left d → HasTie f left ties d → HasTie h left ties d
has_like f h left d ties one has more =
    let e = has (subst (λ (n : ℕ). 1 < n) (sym (lefts_same f h left d one)) more) in
    record {
      tie = e.tie;
      there = e.there;
      is = record {
        count = e.is.count ∙ lefts_same f h left d one;
        below = e.is.below;
        of = one.to e.tie.node e.is.below e.is.of;
        first = λ a l is. e.is.first a l (one.from a l is);
      };
    }

pub span_like : (f h : ℕ → ℕ) (from to d : ℕ) (nodes : List ℕ) (s : Span) → ((a : ℕ) → from ≤ a → a < to → h a ≡ d → f a ≡ d) → IsSpanOf nodes s f from to d → IsSpanOf nodes s h from to d
span_like f h from to d nodes s is span = record { fits = span.fits; within = span.within; rising = span.rising; found = λ a m l e. span.found a m l (is a m l e) }

-- nodes were added behind a span
pub span_longer : (f : ℕ → ℕ) (from to d : ℕ) (nodes more : List ℕ) (s : Span) → length nodes ≤ length more → ((k : ℕ) → k < length nodes → slice_index more k ≡ slice_index nodes k) → IsSpanOf nodes s f from to d → IsSpanOf more s f from to d
span_longer f from to d nodes more s longer same span =
    let fits = span.fits in
    record {
      fits = omega arith;
      within = λ k l m. subst (λ (x : ℕ). (from ≤ x) × (x < to)) (sym (same k (omega arith))) (span.within k l m);
      rising = λ j k l m n. let a = same j (omega arith) in let b = same k (omega arith) in let r = span.rising j k l m n in omega arith;
      found = λ a b l e. let r = span.found a b l e in let hi = r.2 in (r.0, r.1, r.2, same r.0 (omega arith) ∙ r.3);
    }

-- the span of a class whose nodes were added
pub span_of_row : (f : ℕ → ℕ) (from to d : ℕ) (nodes row more : List ℕ) → AreInOrder row f from to d → more ≡ nodes ++ row → IsSpanOf more (let s : Span = record { next = length nodes; end = length more } in s) f from to d
span_of_row f from to d nodes row more in_order added =
    let long : length more ≡ length nodes + length row = ap length added ∙ length-append nodes row in
    let behind : (k : ℕ) → slice_index more (length nodes + k) ≡ slice_index row k = λ k.
    ap (λ (xs : List ℕ). slice_index xs (length nodes + k)) added ∙ get_or-append-add nodes row k 0 in
    let there : (k : ℕ) → length nodes ≤ k → slice_index more k ≡ slice_index row (k - length nodes) = λ k l.
    (let e : k ≡ length nodes + (k - length nodes) = omega arith in ap (slice_index more) e ∙ behind (k - length nodes)) in
    record {
      fits = omega arith;
      within = λ k a b. subst (λ (x : ℕ). (from ≤ x) × (x < to)) (sym (there k a)) (in_order.within (k - length nodes) (omega arith));
      rising = λ j k a b i.
          let ej = there j a in
          let ek = there k (omega arith) in
          let r = in_order.rising (j - length nodes) (k - length nodes) (omega arith) (omega arith) in
          omega arith;
      found = λ a m i is. let r = in_order.found a m i is in let hi = r.1 in (length nodes + r.0, omega arith, omega arith, behind r.0 ∙ r.2);
    }

-- a tied class has a left node
pub some_left : (f : ℕ → ℕ) (left d : ℕ) → 1 < lefts_of f left d → (a : ℕ) × (a < left) × (f a ≡ d)
some_left f left d more =
    let r = some_passes (λ a. d == f a) (numbers_from 0 left) (omega arith) in
    let b = in_numbers r.0 0 left r.1 in
    let hi = b.1 in
    (r.0, omega arith, sym ((Decides-eqb d (f r.0)).0 r.2))

-- of the first n nodes of a class one came to another, or none did
any_moved : (f h : ℕ → ℕ) (d m n : ℕ) → ((a : ℕ) → a < n → (h a ≡ f a) ⊎ (m ≤ h a)) → ((a : ℕ) → a < n → f a ≡ d → h a ≡ f a) ⊎ ((a : ℕ) × (a < n) × (f a ≡ d) × (m ≤ h a))
any_moved f h d m zero kept = inl (λ a l e. absurd (omega arith))
any_moved f h d m (suc n) kept = elim (any_moved f h d m n (λ a l. kept a (omega arith))) [
  | inr r ↦ let l = r.1 in inr (r.0, omega arith, r.2, r.3)
  | inl all ↦ elim (ℕ_discrete (f n) d) [
    | no not ↦ inl (λ a l e. elim (cases_lt a n) [
      | inl u ↦ all a u e
      | inr u ↦ let is : a ≡ n = omega arith in absurd (not (ap f (sym is) ∙ e))
    ])
    | yes here ↦ elim (kept n (omega arith)) [
      | inr more ↦ inr (n, omega arith, here, more)
      | inl same ↦ inl (λ a l e. elim (cases_lt a n) [
        | inl u ↦ all a u e
        | inr u ↦ let is : a ≡ n = omega arith in ap h is ∙ (same ∙ ap f (sym is))
      ])
    ]
  ]
]

-- before a class is listed
pub none_listed : (t : Ties) (g : Graph) (c : Classes) (n : ℕ) → n ≡ length t.spans.items → AreListed t t g c n
none_listed t g c n e = record {
  told = refl;
  queue = refl;
  longer = omega arith;
  nodes = λ k l. refl;
  count = sym e;
  kept = λ d l. refl;
  each = λ d l m. absurd (omega arith);
  low = λ k l m. absurd (omega arith);
  moved = λ a l m o. absurd (omega arith);
}

-- one class more is listed
pub one_listed : (old mid new : Ties) (g : Graph) (c : Classes) (n : ℕ) (row : List ℕ) → AreListed old mid g c n → length old.spans.items ≤ n → AreInOrder row (class_in c) 0 (left_of g) n → IsSpanAdded mid new row → AreListed old new g c (n + 1)
one_listed old mid new g c n row h from in_order added =
    let nodes = mid.nodes.items in
    let fresh : Span = record { next = length nodes; end = length new.nodes.items } in
    let long : length new.nodes.items ≡ length nodes + length row = ap length added.nodes_are ∙ length-append nodes row in
    let spans : length new.spans.items ≡ length mid.spans.items + 1 = ap length added.spans_are ∙ length-append mid.spans.items (fresh ∷ []) in
    let longer = h.longer in
    let count = h.count in
    let before : (k : ℕ) → k < length nodes → slice_index new.nodes.items k ≡ slice_index nodes k = λ k l.
    ap (λ (xs : List ℕ). slice_index xs k) added.nodes_are ∙ get_or_append_left nodes row 0 k l in
    let behind : (k : ℕ) → slice_index new.nodes.items (length nodes + k) ≡ slice_index row k = λ k.
    ap (λ (xs : List ℕ). slice_index xs (length nodes + k)) added.nodes_are ∙ get_or-append-add nodes row k 0 in
    let there : (k : ℕ) → length nodes ≤ k → slice_index new.nodes.items k ≡ slice_index row (k - length nodes) = λ k l.
    (let e : k ≡ length nodes + (k - length nodes) = omega arith in ap (slice_index new.nodes.items) e ∙ behind (k - length nodes)) in
    let kept : (d : ℕ) → d < length mid.spans.items → span_at new d ≡ span_at mid d = λ d l.
    ap (λ (xs : List Span). slice_index_or xs d record { next = 0; end = 0 }) added.spans_are ∙ get_or_append_left mid.spans.items (fresh ∷ []) (record { next = 0; end = 0 }) d l in
    let last : span_at new n ≡ fresh =
    ap (λ (xs : List Span). slice_index_or xs n record { next = 0; end = 0 }) added.spans_are ∙ get_or_push mid.spans.items fresh (record { next = 0; end = 0 }) n h.count in
    record {
      told = added.told ∙ h.told;
      queue = added.queue ∙ h.queue;
      longer = omega arith;
      nodes = λ k l. before k (omega arith) ∙ h.nodes k l;
      count = omega arith;
      kept = λ d l. kept d (omega arith) ∙ h.kept d l;
      each = λ d l m. elim (cases_lt d n) [
        | inl u ↦ subst (λ (s : Span). IsSpanOf new.nodes.items s (class_in c) 0 (left_of g) d) (sym (kept d (omega arith)))
            (span_longer (class_in c) 0 (left_of g) d nodes new.nodes.items (span_at mid d) (omega arith) before (h.each d l u))
        | inr u ↦
            let e : n ≡ d = omega arith in
            subst (λ (x : ℕ). IsSpanOf new.nodes.items (span_at new x) (class_in c) 0 (left_of g) x) e
            (subst (λ (s : Span). IsSpanOf new.nodes.items s (class_in c) 0 (left_of g) n) (sym last)
            (span_of_row (class_in c) 0 (left_of g) n nodes row new.nodes.items in_order added.nodes_are))
      ];
      low = λ k l m. elim (cases_lt k (length nodes)) [
        | inl u ↦ subst (λ (x : ℕ). x < left_of g) (sym (before k u)) (h.low k l u)
        | inr u ↦ subst (λ (x : ℕ). x < left_of g) (sym (there k u)) (in_order.within (k - length nodes) (omega arith)).1
      ];
      moved = λ a l m o. elim (cases_lt (class_in c a) n) [
        | inl u ↦ let r = h.moved a l m u in let hi = r.2 in (r.0, r.1, omega arith, before r.0 r.2 ∙ r.3)
        | inr u ↦
            let r = in_order.found a (omega arith) l (omega arith) in
            let hi = r.1 in
            (length nodes + r.0, omega arith, omega arith, behind r.0 ∙ r.2)
      ];
    }

-- what renewing asks for
pub moved_from : (old new : Ties) (g : Graph) (c : Classes) (from : ℕ) → AreFormer old g c → AreListed old new g c (class_count c) → from ≡ length old.nodes.items → AreMovedFrom new g c from
moved_from old new g c from h listed ef = record {
  long = ap (λ (v : Vec ℕ Global). length v.items) listed.told ∙ h.long;
  count = listed.count;
  low = λ k l m. listed.low k (omega arith) m;
  below = λ a l. subst (λ (v : Vec ℕ Global). slice_index v.items a < class_count c) (sym listed.told) (h.below a l);
}

pub spans_listed : (old new : Ties) (g : Graph) (c : Classes) → AreFormer old g c → AreListed old new g c (class_count c) → AreSpansOf new g c
spans_listed old new g c h listed d l =
    let count = listed.count in
    elim (cases_lt d (length old.spans.items)) [
      | inl u ↦ subst (λ (s : Span). IsSpanOf new.nodes.items s (class_in c) 0 (left_of g) d) (sym (listed.kept d u))
          (span_longer (class_in c) 0 (left_of g) d old.nodes.items new.nodes.items (span_at old d) listed.longer listed.nodes
          (span_like (told_in old) (class_in c) 0 (left_of g) d old.nodes.items (span_at old d) (λ a b m e. elim (h.kept a m) [
            | inl f ↦ sym f ∙ e
            | inr f ↦ absurd (omega arith)
          ]) (h.spans d u)))
      | inr u ↦ listed.each d u (omega arith)
    ]

pub ordered_listed : (old new : Ties) (g : Graph) (c : Classes) → AreFormer old g c → AreListed old new g c (class_count c) → IsHeap tie_order (heap_items new.queue)
ordered_listed old new g c h listed = subst (λ (q : BinaryHeap (Reverse Tie) Global). IsHeap tie_order (heap_items q)) (sym listed.queue) h.ordered

-- classes were followed
pub followed : (old mid late new : Ties) (g : Graph) (c : Classes) (from : ℕ) → IsPartition c (left_of g) (nodes_of g) → AreFormer old g c → from ≡ length old.nodes.items → AreListed old mid g c (class_count c)
    → AreRenewed mid late g c from (length mid.nodes.items) → AreTaken late new g c from (length late.nodes.items) → AreTiesOf new g c
followed old mid late new g c from part h ef listed renewed taken =
    let inside = part.inside in
    let told_mid : (a : ℕ) → told_in mid a ≡ told_in old a = λ a. ap (λ (v : Vec ℕ Global). slice_index v.items a) listed.told in
    let told_late : (a : ℕ) → told_in late a ≡ told_in old a = λ a. ap (λ (v : Vec ℕ Global). slice_index v.items a) renewed.told ∙ told_mid a in
    let nodes_late : late.nodes.items ≡ mid.nodes.items = ap (λ (v : Vec ℕ Global). v.items) renewed.nodes in
    let long_late : length late.nodes.items ≡ length mid.nodes.items = ap length nodes_late in
    let ties_new : ties_in new ≡ ties_in late = ap (λ (q : BinaryHeap (Reverse Tie) Global). map (λ (r : Reverse Tie). r.0) (heap_items q)) taken.queue in
    let ties_mid : ties_in mid ≡ ties_in old = ap (λ (q : BinaryHeap (Reverse Tie) Global). map (λ (r : Reverse Tie). r.0) (heap_items q)) listed.queue in
    let place : (a : ℕ) → a < left_of g → length old.spans.items ≤ class_in c a → (k : ℕ) × (from ≤ k) × (k < length mid.nodes.items) × (slice_index mid.nodes.items k ≡ a)
    = λ a l m. (let r = listed.moved a l m (part.classes.below a (omega arith)) in let lo = r.1 in (r.0, omega arith, r.2, r.3)) in
    record {
      long = taken.long ∙ (ap (λ (v : Vec ℕ Global). length v.items) renewed.told ∙ (ap (λ (v : Vec ℕ Global). length v.items) listed.told ∙ h.long));
      told = λ a l. elim (h.kept a l) [
        | inl e ↦ elim (taken.rest a) [
          | inl f ↦ f ∙ (told_late a ∙ sym e)
          | inr f ↦ f
        ]
        | inr m ↦
            let r = place a l m in
            let hi = r.2 in
            let is : slice_index late.nodes.items r.0 ≡ a = ap (λ (xs : List ℕ). slice_index xs r.0) nodes_late ∙ r.3 in
            subst (λ (x : ℕ). told_in new x ≡ class_in c x) is (taken.taken r.0 r.1 (omega arith))
      ];
      count = ap (λ (v : Vec Span Global). length v.items) taken.spans ∙ (renewed.count ∙ listed.count);
      spans = λ d l.
          subst (λ (v : Vec ℕ Global). IsSpanOf v.items (span_at new d) (class_in c) 0 (left_of g) d) (sym taken.nodes)
          (subst (λ (v : Vec Span Global). IsSpanOf late.nodes.items (slice_index_or v.items d record { next = 0; end = 0 }) (class_in c) 0 (left_of g) d) (sym taken.spans)
          (renewed.spans d (subst (λ (v : Vec Span Global). d < length v.items) taken.spans l)));
      ties = λ d l more.
          let late_has : HasTie (class_in c) (left_of g) (ties_in late) d = elim (cases_lt d (length old.spans.items)) [
            | inr u ↦ λ m.
                let b = some_left (class_in c) (left_of g) d m in
                let is = b.2 in
                let r = place b.0 b.1 (omega arith) in
                subst (λ (x : ℕ). HasTie (class_in c) (left_of g) (ties_in late) x) (ap (class_in c) r.3 ∙ b.2) (renewed.entered r.0 r.1 r.2) m
            | inl u ↦ elim (any_moved (told_in old) (class_in c) d (length old.spans.items) (left_of g) h.kept) [
              | inr w ↦
                  let r = place w.0 w.1 w.3 in
                  subst (λ (x : ℕ). HasTie (class_in c) (left_of g) (ties_in late) x) (told_mid (slice_index mid.nodes.items r.0) ∙ (ap (told_in old) r.3 ∙ w.2)) (renewed.former r.0 r.1 r.2)
              | inl none ↦
                  let one : IsOneClass (told_in old) (class_in c) (left_of g) d = record {
                    to = λ a m e. none a m e ∙ e;
                    from = λ a m e. elim (h.kept a m) [
                      | inl f ↦ sym f ∙ e
                      | inr f ↦ absurd (omega arith)
                    ];
                  } in
                  λ m.
                  let e = has_like (told_in old) (class_in c) (left_of g) d (ties_in old) one (h.ties d u) m in
                  record { tie = e.tie; there = renewed.kept e.tie (subst (λ (ts : List Tie). Contains ts e.tie) (sym ties_mid) e.there); is = e.is }
            ]
          ] in
          subst (λ (ts : List Tie). IsEntered (class_in c) (left_of g) d ts) (sym ties_new) (late_has more);
      ordered = subst (λ (q : BinaryHeap (Reverse Tie) Global). IsHeap tie_order (heap_items q)) (sym taken.queue) renewed.ordered;
    }

-- the ties of classes that were parted since
pub former : (t : Ties) (g : Graph) (old new : Classes) → IsPartition old (left_of g) (nodes_of g) → IsGrown old new → AreTiesOf t g old → AreFormer t g new
former t g old new part grown h =
    let inside = part.inside in
    let long = part.classes.long in
    let count = h.count in
    let more = grown.count in
    record {
      long = h.long;
      below = λ a l. let e = h.told a l in let b = part.classes.below a (omega arith) in omega arith;
      kept = λ a l. elim (grown.kept a (omega arith)) [
        | inl e ↦ inl (e ∙ sym (h.told a l))
        | inr m ↦ inr (omega arith)
      ];
      fewer = omega arith;
      spans = λ d l. span_like (class_in old) (told_in t) 0 (left_of g) d t.nodes.items (span_at t d) (λ a b m e. sym (h.told a m) ∙ e) (h.spans d l);
      ties = λ d l. has_like (class_in old) (told_in t) (left_of g) d (ties_in t) (record { to = λ a m e. h.told a m ∙ e; from = λ a m e. sym (h.told a m) ∙ e }) (h.ties d (omega arith));
      ordered = h.ordered;
    }

-- before any class is listed
pub first_former : (t : Ties) (g : Graph) (c : Classes) → IsPartition c (left_of g) (nodes_of g) → length t.class_of.items ≡ left_of g → ((a : ℕ) → a < left_of g → told_in t a ≡ class_in c a) → t.spans.items ≡ [] → IsHeap tie_order (heap_items t.queue) → AreFormer t g c
first_former t g c part long told empty ordered =
    let none : length t.spans.items ≡ 0 = ap length empty in
    let inside = part.inside in
    record {
      long = long;
      below = λ a l. let e = told a l in let b = part.classes.below a (omega arith) in omega arith;
      kept = λ a l. inl (sym (told a l));
      fewer = omega arith;
      spans = λ d l. absurd (omega arith);
      ties = λ d l. absurd (omega arith);
      ordered = ordered;
    }

-- what is asked before classes are taken
pub low_late : (old mid late : Ties) (g : Graph) (c : Classes) (from : ℕ) → AreListed old mid g c (class_count c) → from ≡ length old.nodes.items → AreRenewed mid late g c from (length mid.nodes.items) → AreLow late g from
low_late old mid late g c from listed ef renewed k l m =
    subst (λ (v : Vec ℕ Global). slice_index v.items k < left_of g) (sym renewed.nodes)
    (listed.low k (omega arith) (subst (λ (v : Vec ℕ Global). k < length v.items) renewed.nodes m))

pub long_late : (old mid late : Ties) (g : Graph) (c : Classes) (from : ℕ) → AreFormer old g c → AreListed old mid g c (class_count c) → AreRenewed mid late g c from (length mid.nodes.items) → length late.class_of.items ≡ left_of g
long_late old mid late g c from h listed renewed = ap (λ (v : Vec ℕ Global). length v.items) renewed.told ∙ (ap (λ (v : Vec ℕ Global). length v.items) listed.told ∙ h.long)
