-- The least node whose class has unequal counts.
use Rattle.std.proofs.Common.{◌≡◌, ◌⊎◌, inl, inr, ◌<◌, ◌≤◌, ◌+◌, ◌-◌, ◌==◌, ℕ, Option, Some, None, IfSome, [], refl, sym, subst, ◌∙◌, ap, arith}
use Rattle.std.proofs.lemmas.Bool.{cases_lt}
use Rattle.round_laws.specs.Web.{IsWeb, IsNode, agree, on_left, on_right}
use Rattle.round_laws.specs.Nodes.{Node, Side, Layout, Schematic, Kind, Net, Device, Call}
use Rattle.round_laws.specs.Colours.{AreColours}
use Rattle.round_laws.proofs.Agree.{count_same}
use Rattle.match_laws.specs.Circuits.{Pair, circuit_of, node, web_of}
use Rattle.match_laws.specs.Answer.{evidence_rank, side_rank, IsNoLaterNode, IsEvidence}
use Rattle.match_laws.proofs.Images.{size, IsThere}
use Rattle.match_graph.specs.declared.graph.Graph.{Graph}
use Rattle.match_graph.specs.declared.sizes.Sizes.{Sizes}
use Rattle.match_graph.specs.Graph.{IsGraph, IsGraphOf, IsNumbered, graph_web, nodes_of}
use Rattle.match_graph.specs.Numbering.{AreSizesOf, count_in, first_of_side, index_of, place_in}
use Rattle.match_graph.proofs.Named.{left_numbered, right_numbered, right_first}
use Rattle.match_graph.proofs.Placed.{there, index-injective}
use Rattle.match_rounds.specs.declared.classes.Classes.{Classes}
use Rattle.match_rounds.specs.Classes.{class_in}
use Rattle.match_rounds.specs.Refined.{AreRefuted}
use Rattle.match_rounds.specs.Sides.{left_members, right_members}
use Rattle.match_rounds.specs.Start.{guessed_web}
use Rattle.match_rounds.proofs.Evenness.{test_is}
use Rattle.match_rounds.proofs.Started.{node_below}
use Rattle.refine_match.specs.Classes.{AreTold, IsOfUneven}
use Rattle.refine_match.specs.Evidence.{AreEvenFrom, begin_of, stop_of, IsEvenKind, IsFirstOfKind, IsLeastUneven}
use Rattle.refine_match.proofs.Crossed.{lefts_are, rights_are, colours_are, refuted_is}

pub if_some : {X : Type 0} {P Q : X → Type 0} (o : Option X) → IfSome o P → ((x : X) → P x → Q x) → IfSome o Q
if_some (Some x) h f = f x h
if_some None h f = tt

pub even_more : (g : Graph) (c : Classes) (from node l r : ℕ) → AreEvenFrom g c from node → l ≡ r → (IsOfUneven g c node → l ≡ r → ⊥) → AreEvenFrom g c from (node + 1)
even_more g c from x l r h e bad a lo hi u = elim (cases_lt a x) [
  | inl m ↦ h a lo m u
  | inr m ↦ let is : a ≡ x = omega arith in bad (subst (IsOfUneven g c) is u) e
]

-- a node of a side, and its number
record Stands (s : Sizes) (side : Side) (a : Node) (x : ℕ) : Type 0 where
  side_is : a.side ≡ side
  low : begin_of s a.kind ≤ x
  high : x < stop_of s a.kind
  number : a.number ≡ x - begin_of s a.kind

placed : (p : Pair) (side : Side) (s : Sizes) (kind : Kind) (k : ℕ) → AreSizesOf s (first_of_side p side) (circuit_of p side) → k < size p side kind
    → (begin_of s kind ≤ index_of p (node side kind k)) × (index_of p (node side kind k) < stop_of s kind) × (k ≡ index_of p (node side kind k) - begin_of s kind)
placed p side s Net k h l = let f = h.first_is in let n = h.nets in (omega arith, omega arith, omega arith)
placed p side s Device k h l = let f = h.first_is in let n = h.nets in let d = h.devices in (omega arith, omega arith, omega arith)
placed p side s Call k h l = let f = h.first_is in let n = h.nets in let d = h.devices in let c = h.calls in (omega arith, omega arith, omega arith)

stands_on : (p : Pair) (side : Side) (s : Sizes) (a : Node) → AreSizesOf s (first_of_side p side) (circuit_of p side) → IsThere p side a → Stands s side a (index_of p a)
stands_on p side s a h t =
    let w = placed p side s a.kind a.number h t.below in
    let e : index_of p (node side a.kind a.number) ≡ index_of p a = ap (λ (x : Side). index_of p (node x a.kind a.number)) (sym t.stands) in
    let lo = w.0 in
    let hi = w.1 in
    let n = w.2 in
    record { side_is = t.stands; low = subst (λ (x : ℕ). begin_of s a.kind ≤ x) e lo; high = subst (λ (x : ℕ). x < stop_of s a.kind) e hi; number = n ∙ ap (λ (x : ℕ). x - begin_of s a.kind) e }

-- each node stands on one of the sides
either : (p : Pair) (g : Graph) (a : Node) → IsGraphOf p g → IsNode (web_of p) a → Stands g.left Layout a (index_of p a) ⊎ Stands g.right Schematic a (index_of p a)
either p g a h n =
    let t = there p a n in
    on t.0 t.1
  where
    on : (side : Side) → IsThere p side a → Stands g.left Layout a (index_of p a) ⊎ Stands g.right Schematic a (index_of p a)
    on Layout t = inl (stands_on p Layout g.left a h.left t)
    on Schematic t = inr (stands_on p Schematic g.right a (right_first p g h) t)

place_from : (s : Sizes) (kind : Kind) (x : ℕ) → begin_of s kind ≤ x → x < stop_of s kind → (place_in s kind (x - begin_of s kind) ≡ x) × (x - begin_of s kind < count_in s kind)
place_from s Net x lo hi = (omega arith, omega arith)
place_from s Device x lo hi = (omega arith, omega arith)
place_from s Call x lo hi = (omega arith, omega arith)

is_left : (p : Pair) (g : Graph) (kind : Kind) (a : Node) (x : ℕ) → IsGraphOf p g → IsNumbered p x a → begin_of g.left kind ≤ x → x < stop_of g.left kind → a ≡ node Layout kind (x - begin_of g.left kind)
is_left p g kind a x h n lo hi =
    let f = place_from g.left kind x lo hi in
    let m = left_numbered p g kind (x - begin_of g.left kind) x h f.0 f.1 in
    index-injective p a (node Layout kind (x - begin_of g.left kind)) n.node m.node (n.index ∙ sym m.index)

is_right : (p : Pair) (g : Graph) (kind : Kind) (a : Node) (x : ℕ) → IsGraphOf p g → IsNumbered p x a → begin_of g.right kind ≤ x → x < stop_of g.right kind → a ≡ node Schematic kind (x - begin_of g.right kind)
is_right p g kind a x h n lo hi =
    let f = place_from g.right kind x lo hi in
    let m = right_numbered p g kind (x - begin_of g.right kind) x h f.0 f.1 in
    index-injective p a (node Schematic kind (x - begin_of g.right kind)) n.node m.node (n.index ∙ sym m.index)

-- nodes of the kind stand no earlier
kind_first : (p : Pair) (g : Graph) (c : Classes) (kind : Kind) (a b : Node) (x : ℕ) → IsGraphOf p g → IsNumbered p x a → IsFirstOfKind g c kind x → IsNode (web_of p) b → IsOfUneven g c (index_of p b) → b.kind ≡ kind
    → IsNoLaterNode a b
kind_first p g c kind a b x h n (inl f) nb u e =
    let is = is_left p g kind a x h n f.low f.high in
    subst (λ (v : Node). IsNoLaterNode v b) (sym is) (elim (either p g b h nb) [
      | inl s ↦
          let lo : begin_of g.left kind ≤ index_of p b = subst (λ (k : Kind). begin_of g.left k ≤ index_of p b) e s.low in
          let num : b.number ≡ index_of p b - begin_of g.left kind = subst (λ (k : Kind). b.number ≡ index_of p b - begin_of g.left k) e s.number in
          elim (cases_lt (index_of p b) x) [
            | inl l ↦ absurd (f.before (index_of p b) lo l u)
            | inr l ↦ inr (ap evidence_rank (sym e), inr (ap side_rank (sym s.side_is), omega arith))
          ]
      | inr s ↦ inr (ap evidence_rank (sym e), inl (subst (λ (v : Side). 0 < side_rank v) (sym s.side_is) (omega arith)))
    ])
kind_first p g c kind a b x h n (inr f) nb u e =
    let is = is_right p g kind a x h n f.1.low f.1.high in
    subst (λ (v : Node). IsNoLaterNode v b) (sym is) (elim (either p g b h nb) [
      | inl s ↦ absurd (f.0 (index_of p b) (subst (λ (k : Kind). begin_of g.left k ≤ index_of p b) e s.low) (subst (λ (k : Kind). index_of p b < stop_of g.left k) e s.high) u)
      | inr s ↦
          let lo : begin_of g.right kind ≤ index_of p b = subst (λ (k : Kind). begin_of g.right k ≤ index_of p b) e s.low in
          let num : b.number ≡ index_of p b - begin_of g.right kind = subst (λ (k : Kind). b.number ≡ index_of p b - begin_of g.right k) e s.number in
          elim (cases_lt (index_of p b) x) [
            | inl l ↦ absurd (f.1.before (index_of p b) lo l u)
            | inr l ↦ inr (ap evidence_rank (sym e), inr (ap side_rank (sym s.side_is), omega arith))
          ]
    ])

-- no node of an even kind is uneven
none_of : (p : Pair) (g : Graph) (c : Classes) (kind : Kind) (b : Node) → IsGraphOf p g → IsEvenKind g c kind → IsNode (web_of p) b → IsOfUneven g c (index_of p b) → b.kind ≡ kind → ⊥
none_of p g c kind b h even nb u e = elim (either p g b h nb) [
  | inl s ↦ even.left (index_of p b) (subst (λ (k : Kind). begin_of g.left k ≤ index_of p b) e s.low) (subst (λ (k : Kind). index_of p b < stop_of g.left k) e s.high) u
  | inr s ↦ even.right (index_of p b) (subst (λ (k : Kind). begin_of g.right k ≤ index_of p b) e s.low) (subst (λ (k : Kind). index_of p b < stop_of g.right k) e s.high) u
]

-- nor is any number, where all kinds are even
pub none_at_all : (g : Graph) (c : Classes) (x : ℕ) → IsGraph g → IsEvenKind g c Device → IsEvenKind g c Call → IsEvenKind g c Net → x < nodes_of g → IsOfUneven g c x → ⊥
none_at_all g c x h d k n l u =
    let first = h.first in
    let next = h.next in
    elim (cases_lt x g.right.first) [
      | inl m ↦ elim (cases_lt x (begin_of g.left Device)) [
        | inl t ↦ n.left x (omega arith) (omega arith) u
        | inr t ↦ elim (cases_lt x (begin_of g.left Call)) [
          | inl v ↦ d.left x t (omega arith) u
          | inr v ↦ k.left x v (omega arith) u
        ]
      ]
      | inr m ↦ elim (cases_lt x (begin_of g.right Device)) [
        | inl t ↦ n.right x (omega arith) (omega arith) u
        | inr t ↦ elim (cases_lt x (begin_of g.right Call)) [
          | inl v ↦ d.right x t (omega arith) u
          | inr v ↦ k.right x v (omega arith) u
        ]
      ]
    ]

first_kind : (p : Pair) (g : Graph) (c : Classes) (kind : Kind) (a : Node) (x : ℕ) → IsGraphOf p g → IsNumbered p x a → IsFirstOfKind g c kind x → a.kind ≡ kind
first_kind p g c kind a x h n (inl f) = ap (λ (v : Node). v.kind) (is_left p g kind a x h n f.low f.high)
first_kind p g c kind a x h n (inr f) = ap (λ (v : Node). v.kind) (is_right p g kind a x h n f.1.low f.1.high)

-- the least node stands before each other
pub is_least : (p : Pair) (g : Graph) (c : Classes) (a b : Node) (x : ℕ) → IsGraphOf p g → IsNumbered p x a → IsLeastUneven g c x → IsNode (web_of p) b → IsOfUneven g c (index_of p b) → IsNoLaterNode a b
is_least p g c a b x h n least nb u = by b.kind least refl
  where
    before : (j k : Kind) → a.kind ≡ j → b.kind ≡ k → evidence_rank j < evidence_rank k → IsNoLaterNode a b
    before j k ea eb l = inl (subst (λ (v : Kind). evidence_rank v < evidence_rank b.kind) (sym ea) (subst (λ (v : Kind). evidence_rank j < evidence_rank v) (sym eb) l))

    by : (kind : Kind) → IsLeastUneven g c x → b.kind ≡ kind → IsNoLaterNode a b
    by Device (inl f) e = kind_first p g c Device a b x h n f nb u e
    by Call (inl f) e = before Device Call (first_kind p g c Device a x h n f) e (omega arith)
    by Net (inl f) e = before Device Net (first_kind p g c Device a x h n f) e (omega arith)
    by Device (inr (inl f)) e = absurd (none_of p g c Device b h f.0 nb u e)
    by Call (inr (inl f)) e = kind_first p g c Call a b x h n f.1 nb u e
    by Net (inr (inl f)) e = before Call Net (first_kind p g c Call a x h n f.1) e (omega arith)
    by Device (inr (inr f)) e = absurd (none_of p g c Device b h f.0 nb u e)
    by Call (inr (inr f)) e = absurd (none_of p g c Call b h f.1 nb u e)
    by Net (inr (inr f)) e = kind_first p g c Net a b x h n f.2 nb u e

pub uneven_of : (g : Graph) (c : Classes) (x : ℕ) → IsLeastUneven g c x → IsOfUneven g c x
uneven_of g c x (inl (inl f)) = f.uneven
uneven_of g c x (inl (inr f)) = f.1.uneven
uneven_of g c x (inr (inl (a, inl f))) = f.uneven
uneven_of g c x (inr (inl (a, inr f))) = f.1.uneven
uneven_of g c x (inr (inr (a, b, inl f))) = f.uneven
uneven_of g c x (inr (inr (a, b, inr f))) = f.1.uneven

stop_below : (g : Graph) (kind : Kind) (x : ℕ) → IsGraph g → x < stop_of g.left kind → x < nodes_of g
stop_below g Net x h l = let e = h.next in omega arith
stop_below g Device x h l = let e = h.next in omega arith
stop_below g Call x h l = let e = h.next in omega arith

right_below : (g : Graph) (kind : Kind) (x : ℕ) → x < stop_of g.right kind → x < nodes_of g
right_below g Net x l = omega arith
right_below g Device x l = omega arith
right_below g Call x l = omega arith

pub least_below : (g : Graph) (c : Classes) (x : ℕ) → IsGraph g → IsLeastUneven g c x → x < nodes_of g
least_below g c x h (inl (inl f)) = stop_below g Device x h f.high
least_below g c x h (inl (inr f)) = right_below g Device x f.1.high
least_below g c x h (inr (inl (a, inl f))) = stop_below g Call x h f.high
least_below g c x h (inr (inl (a, inr f))) = right_below g Call x f.1.high
least_below g c x h (inr (inr (a, b, inl f))) = stop_below g Net x h f.high
least_below g c x h (inr (inr (a, b, inr f))) = right_below g Net x f.1.high

-- in a round, a class has as many nodes on a side as agree there
lefts : (g : Graph) (c : Classes) (k a : ℕ) → AreColours (guessed_web g []) k (class_in c) → IsNode (graph_web g) a → on_left (guessed_web g []) k a ≡ left_members g c (class_in c a)
lefts g c k a h n = count_same (agree (guessed_web g []) k a) (λ x. class_in c a == class_in c x) (graph_web g).left (λ x i. test_is (guessed_web g []) k (class_in c) h a x n (inl i))

rights : (g : Graph) (c : Classes) (k a : ℕ) → AreColours (guessed_web g []) k (class_in c) → IsNode (graph_web g) a → on_right (guessed_web g []) k a ≡ right_members g c (class_in c a)
rights g c k a h n = count_same (agree (guessed_web g []) k a) (λ x. class_in c a == class_in c x) (graph_web g).right (λ x i. test_is (guessed_web g []) k (class_in c) h a x n (inr i))

-- some node is of a class of unequal counts, in a refuted round
pub some_uneven : (g : Graph) (c : Classes) (r : ℕ) → AreRefuted (guessed_web g []) r c → (a : ℕ) × (a < nodes_of g) × IsOfUneven g c a
some_uneven g c r h =
    let u = h.refuted.uneven in
    (h.refuted.node, node_below g h.refuted.node u.node, (λ e. u.counts (lefts g c r h.refuted.node h.colours u.node ∙ (e ∙ sym (rights g c r h.refuted.node h.colours u.node)))))

-- without guesses, both forms are the same
pub told : (p : Pair) (g : Graph) → IsGraphOf p g → IsWeb (web_of p) → AreTold p g [] []
told p g h good = record { graph = h; good = good; names = refl; there = λ q i. absurd i }

-- the least node is the evidence of the round
pub is_evidence : (p : Pair) (g : Graph) (c : Classes) (r x l m : ℕ) (a : Node) → IsGraphOf p g → IsWeb (web_of p) → AreRefuted (guessed_web g []) r c → IsLeastUneven g c x → IsNumbered p x a
    → l ≡ left_members g c (class_in c x) → m ≡ right_members g c (class_in c x) → IsEvidence (web_of p) r a l m
is_evidence p g c r x l m a h good refuted least n el em =
    let t = told p g h good in
    let colours = colours_are p g [] [] c r t refuted.colours in
    let left : on_left (web_of p) r a ≡ left_members g c (class_in c x) = lefts_are p g [] c r a h colours n.node ∙ ap (λ (y : ℕ). left_members g c (class_in c y)) n.index in
    let right : on_right (web_of p) r a ≡ right_members g c (class_in c x) = rights_are p g [] c r a h colours n.node ∙ ap (λ (y : ℕ). right_members g c (class_in c y)) n.index in
    record {
      before = (refuted_is p g [] [] r t refuted.refuted).before;
      uneven = record { node = n.node; counts = λ e. uneven_of g c x least (sym left ∙ (e ∙ right)) };
      least = λ b u. is_least p g c a b x h n least u.node (λ e. u.counts (lefts_are p g [] c r b h colours u.node ∙ (e ∙ sym (rights_are p g [] c r b h colours u.node))));
      left_is = el ∙ sym left;
      right_is = em ∙ sym right;
    }
