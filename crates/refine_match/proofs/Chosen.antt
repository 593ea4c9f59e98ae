-- The node that is guessed next, and classes that leave none.
use Rattle.std.proofs.Common.{◌≡◌, ◌⊎◌, inl, inr, ◌<◌, ◌≤◌, ◌+◌, ℕ, Bool, true, cond, count_by, List, [], ◌∷◌, refl, sym, subst, ◌∙◌, ap, arith}
use Rattle.std.proofs.lemmas.Bool.{cases_Bool}
use Rattle.plain_netlist.specs.Lists.{IsListed}
use Rattle.round_laws.specs.Web.{IsWeb, IsNode, Guess, IsSolved, agree, on_left, on_right, under}
use Rattle.round_laws.specs.Nodes.{Node, Side, Layout, Schematic, Kind, Net, Device, Call}
use Rattle.round_laws.specs.Guesses.{IsChosen, rank}
use Rattle.round_laws.proofs.Agree.{count-cons, equivalence, under_web}
use Rattle.match_laws.specs.Circuits.{Pair, node, nodes, web_of}
use Rattle.match_laws.proofs.Images.{size, nodes_there}
use Rattle.match_graph.specs.declared.graph.Graph.{Graph}
use Rattle.match_graph.specs.Graph.{IsGraphOf, IsNumbered, left_of}
use Rattle.match_graph.specs.Numbering.{index_of, nodes_in}
use Rattle.match_graph.proofs.Named.{right_first}
use Rattle.match_graph.proofs.Placed.{index-first, index-last}
use Rattle.match_rounds.specs.declared.classes.Classes.{Classes}
use Rattle.match_rounds.specs.Sides.{left_members}
use Rattle.refine_match.specs.Classes.{AreStableClasses, class_of_node}
use Rattle.refine_match.specs.Choosing.{tied_with, IsLeastTied, AreUntied}
use Rattle.refine_match.proofs.Crossed.{lefts_are}

-- the numbers of the left side
pub left_count : (p : Pair) (g : Graph) → IsGraphOf p g → left_of g ≡ nodes_in p.left
left_count p g h = (right_first p g h).first_is

pub left_listed : (p : Pair) (g : Graph) (a : Node) → IsGraphOf p g → IsNode (web_of p) a → index_of p a < left_of g → IsListed a (nodes p Layout)
left_listed p g a h (inl i) l = i
left_listed p g a h (inr i) l = let f = index-first p Schematic a i in let e = left_count p g h in absurd (omega arith)

pub right_listed : (p : Pair) (g : Graph) (a : Node) → IsGraphOf p g → IsNode (web_of p) a → left_of g ≤ index_of p a → IsListed a (nodes p Schematic)
right_listed p g a h (inl i) l = let f = index-last p Layout a i in let e = left_count p g h in absurd (omega arith)
right_listed p g a h (inr i) l = i

pub left_low : (p : Pair) (g : Graph) (a : Node) → IsGraphOf p g → IsListed a (nodes p Layout) → index_of p a < left_of g
left_low p g a h i = let f = index-last p Layout a i in let e = left_count p g h in omega arith

-- numbers of a side go by kind and number
by_rank : (p : Pair) (j k : Kind) (m n : ℕ) → m < size p Layout j → n < size p Layout k → index_of p (node Layout j m) ≤ index_of p (node Layout k n) → (rank j < rank k) ⊎ ((rank j ≡ rank k) × (m ≤ n))
by_rank p Net Net m n lm ln l = inr (refl, omega arith)
by_rank p Net Device m n lm ln l = inl (omega arith)
by_rank p Net Call m n lm ln l = inl (omega arith)
by_rank p Device Net m n lm ln l = absurd (omega arith)
by_rank p Device Device m n lm ln l = inr (refl, omega arith)
by_rank p Device Call m n lm ln l = inl (omega arith)
by_rank p Call Net m n lm ln l = absurd (omega arith)
by_rank p Call Device m n lm ln l = absurd (omega arith)
by_rank p Call Call m n lm ln l = inr (refl, omega arith)

left_ranks : (p : Pair) (a b : Node) → IsListed a (nodes p Layout) → IsListed b (nodes p Layout) → index_of p a ≤ index_of p b → (rank a.kind < rank b.kind) ⊎ ((rank a.kind ≡ rank b.kind) × (a.number ≤ b.number))
left_ranks p a b i j l =
    let s = nodes_there p Layout a i in
    let t = nodes_there p Layout b j in
    let ea : index_of p a ≡ index_of p (node Layout a.kind a.number) = ap (λ (x : Side). index_of p (node x a.kind a.number)) s.stands in
    let eb : index_of p b ≡ index_of p (node Layout b.kind b.number) = ap (λ (x : Side). index_of p (node x b.kind b.number)) t.stands in
    by_rank p a.kind b.kind a.number b.number s.below t.below (omega arith)

-- the least tied node is the one that is chosen
pub is_chosen : (p : Pair) (g : Graph) (qs : List (Guess Node)) (c : Classes) (x : ℕ) (a : Node) → IsGraphOf p g → (s : AreStableClasses p qs c) → IsLeastTied g c (left_of g) x → IsNumbered p x a
    → IsChosen (under (web_of p) qs) s.round a
is_chosen p g qs c x a h s least n =
    let low : index_of p a < left_of g = subst (λ (y : ℕ). y < left_of g) (sym n.index) least.below in
    let here : IsListed a (nodes p Layout) = left_listed p g a h n.node low in
    let count : (b : Node) → IsListed b (nodes p Layout) → on_left (under (web_of p) qs) s.round b ≡ tied_with g c (index_of p b) = λ b i. lefts_are p g qs c s.round b h s.colours (inl i) in
    let at : tied_with g c (index_of p a) ≡ tied_with g c x = ap (tied_with g c) n.index in
    record {
      stable = s.stable;
      even = s.even;
      there = here;
      tied = (let e = count a here in let t = least.tied in omega arith);
      least = λ b i t.
          let e = count a here in
          let f = count b i in
          let index = n.index in
          elim (least.least (index_of p b) (left_low p g b h i) (omega arith)) [
            | inl u ↦ inl (omega arith)
            | inr u ↦ let same = u.0 in let lo = u.1 in inr (omega arith, left_ranks p a b here i (omega arith))
          ];
    }

-- where a test passes somewhere
pub some_passes : {X : Type 0} (q : X → Bool) (xs : List X) → 0 < count_by q xs → (x : X) × IsListed x xs × (q x ≡ true)
some_passes q [] l = absurd (omega arith)
some_passes q (x ∷ xs) l = elim (cases_Bool (q x)) [
  | inl t ↦ (x, inl refl, t)
  | inr f ↦
      let n = count-cons q x xs ∙ ap (λ (b : Bool). cond {A = ℕ} b 1 0 + count_by q xs) f in
      let r = some_passes q xs (omega arith) in
      (r.0, inr r.1, r.2)
]

pub passes_some : {X : Type 0} (q : X → Bool) (x : X) (xs : List X) → IsListed x xs → q x ≡ true → 0 < count_by q xs
passes_some q x [] i t = absurd i
passes_some q x (y ∷ ys) (inl e) t =
    let n = count-cons q y ys ∙ ap (λ (b : Bool). cond {A = ℕ} b 1 0 + count_by q ys) (ap q (sym e) ∙ t) in
    omega arith
passes_some q x (y ∷ ys) (inr i) t = let n = count-cons q y ys in let r = passes_some q x ys i t in omega arith

-- classes without ties are single
ones : (p : Pair) (g : Graph) (qs : List (Guess Node)) (c : Classes) → IsGraphOf p g → IsWeb (web_of p) → (s : AreStableClasses p qs c) → AreUntied g c (left_of g) → (a : Node) → IsNode (web_of p) a → on_left (under (web_of p) qs) s.round a ≡ 1
ones p g qs c h good s untied a n =
    let even : on_left (under (web_of p) qs) s.round a ≡ on_right (under (web_of p) qs) s.round a = s.even s.round (omega arith) a n in
    let eq = equivalence (under (web_of p) qs) (under_web (web_of p) qs good).alike s.round in
    let self : agree (under (web_of p) qs) s.round a a ≡ true = eq.refl a in
    let some : 0 < on_left (under (web_of p) qs) s.round a = elim n [
      | inl i ↦ passes_some (agree (under (web_of p) qs) s.round a) a (web_of p).left i self
      | inr i ↦ let r = passes_some (agree (under (web_of p) qs) s.round a) a (web_of p).right i self in omega arith
    ] in
    let b = some_passes (agree (under (web_of p) qs) s.round a) (web_of p).left some in
    let class : class_of_node p c a ≡ class_of_node p c b.0 = (s.colours a b.0 n (inl b.1)).1 b.2 in
    let count = lefts_are p g qs c s.round a h s.colours n in
    let few = untied (index_of p b.0) (left_low p g b.0 h b.1) in
    let same : left_members g c (class_of_node p c a) ≡ tied_with g c (index_of p b.0) = ap (left_members g c) class in
    omega arith

pub is_solved : (p : Pair) (g : Graph) (qs : List (Guess Node)) (c : Classes) → IsGraphOf p g → IsWeb (web_of p) → (s : AreStableClasses p qs c) → AreUntied g c (left_of g)
    → (solved : IsSolved (under (web_of p) qs)) × (solved.round ≡ s.round)
is_solved p g qs c h good s untied = (
  record {
    round = s.round;
    stable = s.stable;
    even = s.even;
    left = λ a n. ones p g qs c h good s untied a n;
    right = λ a n. sym (s.even s.round (omega arith) a n) ∙ ones p g qs c h good s untied a n;
  },
  refl,
)
