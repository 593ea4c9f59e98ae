-- The right nodes that stand with the left ones.
use Rattle.std.proofs.Common.{◌≡◌, inl, inr, ◌<◌, ◌≤◌, ◌+◌, ◌-◌, ◌==◌, ℕ, suc, Bool, true, cond, count_by, List, [], ◌∷◌, ◌++◌, length, map, slice_index, refl, sym, subst, ◌∙◌, ap, arith, length-append}
use Rattle.std.proofs.lemmas.Bool.{cases_lt, cases_Bool}
use Rattle.std.proofs.lemmas.Bool.Decides.{Decides-eqb}
use Rattle.std.proofs.lemmas.List.{get_or_push, get_or_append_left}
use Rattle.plain_netlist.specs.Lists.{IsListed}
use Rattle.round_laws.specs.Web.{Web, Guess, IsSolved, agree, first_of, mate, on_right, under}
use Rattle.round_laws.specs.Nodes.{Node, Layout, Kind, Net, Device, Call}
use Rattle.round_laws.specs.Colours.{AreColours}
use Rattle.round_laws.proofs.Agree.{count-cons}
use Rattle.round_laws.proofs.Solved.{only_one}
use Rattle.match_laws.specs.Circuits.{Pair, Pairing, node, numbers_from, numbers_of, pairing_of, web_of}
use Rattle.match_laws.proofs.Sums.{in_numbers}
use Rattle.match_graph.specs.declared.graph.Graph.{Graph}
use Rattle.match_graph.specs.declared.sizes.Sizes.{Sizes}
use Rattle.match_graph.specs.Graph.{IsGraph, IsGraphOf, graph_web, left_of, nodes_of}
use Rattle.match_graph.specs.Numbering.{count_in, place_in}
use Rattle.match_graph.proofs.Named.{left_numbered}
use Rattle.match_rounds.specs.declared.classes.Classes.{Classes}
use Rattle.match_rounds.specs.Classes.{class_in}
use Rattle.match_rounds.specs.Sides.{right_members}
use Rattle.match_rounds.specs.Turned.{AreAllOf}
use Rattle.match_rounds.proofs.Counting.{any_index}
use Rattle.refine_match.specs.Classes.{class_of_node}
use Rattle.refine_match.specs.Evidence.{begin_of, stop_of}
use Rattle.refine_match.specs.Pairings.{IsMateOf, AreMatesOf, IsPairingOf}
use Rattle.refine_match.proofs.Chosen.{some_passes, right_listed}

-- a right node of a class that has some stands among its members
pub mate_there : (g : Graph) (c : Classes) (d : ℕ) (items : List ℕ) → left_of g ≤ nodes_of g → right_members g c d ≡ 1 → AreAllOf (class_in c) d items (nodes_of g) → ((k : ℕ) → k < length items → slice_index items k < left_of g) → ⊥
mate_there g c d items l one all none =
    let r = some_passes (λ a. d == class_in c a) (graph_web g).right (omega arith) in
    let b = in_numbers r.0 (left_of g) (nodes_of g - left_of g) r.1 in
    let lo = b.0 in
    let hi = b.1 in
    let k = any_index items r.0 (all.found r.0 (omega arith) (sym ((Decides-eqb d (class_in c r.0)).0 r.2))) in
    let low = none k.0 k.1 in
    let is = k.2 in
    omega arith

pub place_plus : (s : Sizes) (kind : Kind) (k : ℕ) → place_in s kind k ≡ begin_of s kind + k
place_plus s Net k = omega arith
place_plus s Device k = omega arith
place_plus s Call k = omega arith

pub left_stop : (g : Graph) (kind : Kind) → IsGraph g → stop_of g.left kind ≤ left_of g
left_stop g Net h = let e = h.next in omega arith
left_stop g Device h = let e = h.next in omega arith
left_stop g Call h = let e = h.next in omega arith

-- one mate more
pub mates_more : (g : Graph) (c : Classes) (kind : Kind) (xs : List ℕ) (x : ℕ) → ((k : ℕ) → k < length xs → IsMateOf g c kind k (slice_index xs k)) → IsMateOf g c kind (length xs) x
    → (k : ℕ) → k < length (xs ++ x ∷ []) → IsMateOf g c kind k (slice_index (xs ++ x ∷ []) k)
mates_more g c kind xs x h m k l =
    let long : length (xs ++ x ∷ []) ≡ length xs + 1 = length-append xs (x ∷ []) in
    elim (cases_lt k (length xs)) [
      | inl t ↦ subst (IsMateOf g c kind k) (sym (get_or_append_left xs (x ∷ []) 0 k t)) (h k t)
      | inr t ↦
          let e : k ≡ length xs = omega arith in
          subst (IsMateOf g c kind k) (sym (ap (slice_index (xs ++ x ∷ [])) e ∙ get_or_push xs x 0 (length xs) refl)) (subst (λ (y : ℕ). IsMateOf g c kind y x) (sym e) m)
    ]

first_passes : {X : Type 0} (q : X → Bool) (xs : List X) (d : X) → 0 < count_by q xs → (q (first_of q xs d) ≡ true) × IsListed (first_of q xs d) xs
first_passes q [] d l = absurd (omega arith)
first_passes q (x ∷ xs) d l = elim (cases_Bool (q x)) [
  | inl t ↦
      let e : first_of q (x ∷ xs) d ≡ x = ap (λ (b : Bool). cond b x (first_of q xs d)) t in
      (ap q e ∙ t, inl e)
  | inr f ↦
      let e : first_of q (x ∷ xs) d ≡ first_of q xs d = ap (λ (b : Bool). cond b x (first_of q xs d)) f in
      let n = count-cons q x xs ∙ ap (λ (b : Bool). cond {A = ℕ} b 1 0 + count_by q xs) f in
      let r = first_passes q xs d (omega arith) in
      (ap q e ∙ r.0, inr (subst (λ (y : _). IsListed y xs) (sym e) r.1))
]

mate_is : (w : Web Node) (k : ℕ) (a b : Node) → on_right w k a ≡ 1 → IsListed b w.right → agree w k a b ≡ true → mate w k a ≡ b
mate_is w k a b one i t =
    let m = first_passes (agree w k a) w.right a (omega arith) in
    only_one (agree w k a) w.right (mate w k a) b one m.1 i m.0 t

-- the mates' numbers are those of the classes
number_at : (p : Pair) (g : Graph) (qs : List (Guess Node)) (c : Classes) (kind : Kind) (k v : ℕ) → IsGraphOf p g → k < count_in g.left kind → IsMateOf g c kind k v → (solved : IsSolved (under (web_of p) qs))
    → AreColours (under (web_of p) qs) solved.round (class_of_node p c) → v ≡ (mate (under (web_of p) qs) solved.round (node Layout kind k)).number
number_at p g qs c kind k v h l m solved colours =
    let a = left_numbered p g kind k (place_in g.left kind k) h refl l in
    let b = m.number_is p h in
    let class : class_of_node p c (node Layout kind k) ≡ class_of_node p c b.0 = ap (class_in c) a.index ∙ (sym m.mate.class ∙ ap (class_in c) (sym b.1.index)) in
    let right = right_listed p g b.0 h b.1.node (subst (λ (y : ℕ). left_of g ≤ y) (sym b.1.index) m.mate.right) in
    let is = mate_is (under (web_of p) qs) solved.round (node Layout kind k) b.0 (solved.right (node Layout kind k) a.node) right ((colours (node Layout kind k) b.0 a.node b.1.node).0 class) in
    sym b.2 ∙ ap (λ (x : Node). x.number) (sym is)

-- lists that are equal place by place
mapped : (f : ℕ → ℕ) (xs : List ℕ) (from : ℕ) → ((k : ℕ) → k < length xs → slice_index xs k ≡ f (from + k)) → xs ≡ map f (numbers_from from (length xs))
mapped f [] from h = refl
mapped f (x ∷ xs) from h =
    let head : x ≡ f from = h 0 (omega arith) ∙ ap f (let e : from + 0 ≡ from = omega arith in e) in
    let rest = mapped f xs (suc from) (λ k l. h (suc k) (omega arith) ∙ ap f (let e : from + suc k ≡ suc from + k = omega arith in e)) in
    ap (λ (y : ℕ). y ∷ xs) head ∙ ap (λ (ys : List ℕ). f from ∷ ys) rest

list_is : (p : Pair) (g : Graph) (qs : List (Guess Node)) (c : Classes) (kind : Kind) (n : ℕ) (xs : List ℕ) → IsGraphOf p g → AreMatesOf g c kind xs → count_in g.left kind ≡ n → (solved : IsSolved (under (web_of p) qs))
    → AreColours (under (web_of p) qs) solved.round (class_of_node p c) → xs ≡ numbers_of (mate (under (web_of p) qs) solved.round) kind n
list_is p g qs c kind n xs h m en solved colours =
    let count = m.count in
    mapped (λ k. (mate (under (web_of p) qs) solved.round (node Layout kind k)).number) xs 0
    (λ k l. number_at p g qs c kind k (slice_index xs k) h (omega arith) (m.each k (omega arith)) solved colours
    ∙ ap (λ (j : ℕ). (mate (under (web_of p) qs) solved.round (node Layout kind j)).number) (let e : k ≡ 0 + k = omega arith in e))
    ∙ ap (λ (j : ℕ). numbers_of (mate (under (web_of p) qs) solved.round) kind j) (let e : length xs ≡ n = omega arith in e)

pub is_pairing : (p : Pair) (g : Graph) (qs : List (Guess Node)) (c : Classes) (ns ds ks : List ℕ) → IsGraphOf p g → AreMatesOf g c Net ns → AreMatesOf g c Device ds → AreMatesOf g c Call ks
    → IsPairingOf p qs c (record { nets = ns; devices = ds; calls = ks })
is_pairing p g qs c ns ds ks h n d k solved colours =
    let en = list_is p g qs c Net _ ns h n h.left.nets solved colours in
    let ed = list_is p g qs c Device _ ds h d h.left.devices solved colours in
    let ek = list_is p g qs c Call _ ks h k h.left.calls solved colours in
    ap (λ (xs : List ℕ). let f : Pairing = record { nets = xs; devices = ds; calls = ks } in f) en
    ∙ (ap (λ (xs : List ℕ). let f : Pairing = record { nets = (pairing_of p (mate (under (web_of p) qs) solved.round)).nets; devices = xs; calls = ks } in f) ed
    ∙ ap (λ (xs : List ℕ). let f : Pairing = record { nets = (pairing_of p (mate (under (web_of p) qs) solved.round)).nets; devices = (pairing_of p (mate (under (web_of p) qs) solved.round)).devices; calls = xs } in f) ek)
