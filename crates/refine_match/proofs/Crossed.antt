-- Rounds of numbers, and rounds of the nodes that they stand for.
use Rattle.std.proofs.Common.{◌≡◌, ◌≢◌, inl, inr, ◌==◌, ℕ, suc, true, count_by, List, sym, subst, ◌∙◌, ap}
use Rattle.base_laws.proofs.Tests.{same_truth}
use Rattle.std.proofs.lemmas.Bool.Decides.{Decides-eqb}
use Rattle.round_laws.specs.Web.{IsNode, Guess, agree, on_left, on_right, IsEven, IsStable, IsRefuted, under}
use Rattle.round_laws.specs.Nodes.{Node}
use Rattle.round_laws.specs.Colours.{AreColours}
use Rattle.round_laws.proofs.Agree.{count_same}
use Rattle.round_laws.proofs.Renamed.{renamed, came, goes}
use Rattle.match_laws.specs.Circuits.{Pair, web_of}
use Rattle.match_graph.specs.declared.graph.Graph.{Graph}
use Rattle.match_graph.specs.Graph.{IsGraphOf, graph_web, port_name}
use Rattle.match_graph.specs.Numbering.{index_of}
use Rattle.match_rounds.specs.declared.classes.Classes.{Classes}
use Rattle.match_rounds.specs.Classes.{class_in}
use Rattle.match_rounds.specs.Sides.{left_members, right_members}
use Rattle.match_rounds.specs.Start.{guessed_web}
use Rattle.match_rounds.specs.Refined.{AreSettled}
use Rattle.match_rounds.proofs.PortsDone.{count-map}
use Rattle.refine_match.specs.Classes.{AreStableClasses, AreTold, class_of_node}

pub goes_to : (p : Pair) (g : Graph) (a : Node) → IsGraphOf p g → IsNode (web_of p) a → IsNode (graph_web g) (index_of p a)
goes_to p g a h n = goes (web_of p) (graph_web g) (index_of p) port_name h.renamed a n

pub came_from : (p : Pair) (g : Graph) (x : ℕ) → IsGraphOf p g → IsNode (graph_web g) x → (a : Node) × IsNode (web_of p) a × (x ≡ index_of p a)
came_from p g x h n = came (web_of p) (graph_web g) (index_of p) port_name h.renamed x n

pub agree_is : (p : Pair) (g : Graph) (ns : List (ℕ × ℕ)) (qs : List (Guess Node)) → AreTold p g ns qs → (k : ℕ) (a b : Node) → IsNode (web_of p) a → IsNode (web_of p) b
    → agree (guessed_web g ns) k (index_of p a) (index_of p b) ≡ agree (under (web_of p) qs) k a b
agree_is p g ns qs h k a b na nb =
    ap (λ (gs : List (Guess ℕ)). agree (under (graph_web g) gs) k (index_of p a) (index_of p b)) h.names
    ∙ renamed (web_of p) (graph_web g) (index_of p) port_name qs h.good h.graph.graph.web h.graph.renamed h.there k a b na nb

pub left_is : (p : Pair) (g : Graph) (ns : List (ℕ × ℕ)) (qs : List (Guess Node)) → AreTold p g ns qs → (k : ℕ) (a : Node) → IsNode (web_of p) a
    → on_left (under (web_of p) qs) k a ≡ on_left (guessed_web g ns) k (index_of p a)
left_is p g ns qs h k a n =
    count_same (agree (under (web_of p) qs) k a) (λ b. agree (guessed_web g ns) k (index_of p a) (index_of p b)) (web_of p).left (λ b i. sym (agree_is p g ns qs h k a b n (inl i)))
    ∙ (sym (count-map (agree (guessed_web g ns) k (index_of p a)) (index_of p) (web_of p).left) ∙ ap (count_by (agree (guessed_web g ns) k (index_of p a))) (sym h.graph.renamed.left))

pub right_is : (p : Pair) (g : Graph) (ns : List (ℕ × ℕ)) (qs : List (Guess Node)) → AreTold p g ns qs → (k : ℕ) (a : Node) → IsNode (web_of p) a
    → on_right (under (web_of p) qs) k a ≡ on_right (guessed_web g ns) k (index_of p a)
right_is p g ns qs h k a n =
    count_same (agree (under (web_of p) qs) k a) (λ b. agree (guessed_web g ns) k (index_of p a) (index_of p b)) (web_of p).right (λ b i. sym (agree_is p g ns qs h k a b n (inr i)))
    ∙ (sym (count-map (agree (guessed_web g ns) k (index_of p a)) (index_of p) (web_of p).right) ∙ ap (count_by (agree (guessed_web g ns) k (index_of p a))) (sym h.graph.renamed.right))

pub even_is : (p : Pair) (g : Graph) (ns : List (ℕ × ℕ)) (qs : List (Guess Node)) → AreTold p g ns qs → (k : ℕ) → IsEven (guessed_web g ns) k → IsEven (under (web_of p) qs) k
even_is p g ns qs h k e a n = left_is p g ns qs h k a n ∙ (e (index_of p a) (goes_to p g a h.graph n) ∙ sym (right_is p g ns qs h k a n))

-- and back
pub even_back : (p : Pair) (g : Graph) (ns : List (ℕ × ℕ)) (qs : List (Guess Node)) → AreTold p g ns qs → (k : ℕ) → IsEven (under (web_of p) qs) k → IsEven (guessed_web g ns) k
even_back p g ns qs h k e x n =
    let c = came_from p g x h.graph n in
    subst (λ (y : ℕ). on_left (guessed_web g ns) k y ≡ on_right (guessed_web g ns) k y) (sym c.2) (sym (left_is p g ns qs h k c.0 c.1) ∙ (e c.0 c.1 ∙ right_is p g ns qs h k c.0 c.1))

pub stable_is : (p : Pair) (g : Graph) (ns : List (ℕ × ℕ)) (qs : List (Guess Node)) → AreTold p g ns qs → (k : ℕ) → IsStable (guessed_web g ns) k → IsStable (under (web_of p) qs) k
stable_is p g ns qs h k s a b na nb t =
    sym (agree_is p g ns qs h (suc k) a b na nb) ∙ s (index_of p a) (index_of p b) (goes_to p g a h.graph na) (goes_to p g b h.graph nb) (agree_is p g ns qs h k a b na nb ∙ t)

pub stable_back : (p : Pair) (g : Graph) (ns : List (ℕ × ℕ)) (qs : List (Guess Node)) → AreTold p g ns qs → (k : ℕ) → IsStable (under (web_of p) qs) k → IsStable (guessed_web g ns) k
stable_back p g ns qs h k s x y nx ny t =
    let c = came_from p g x h.graph nx in
    let d = came_from p g y h.graph ny in
    let back : agree (guessed_web g ns) k (index_of p c.0) (index_of p d.0) ≡ true
    = subst (λ (u : ℕ). agree (guessed_web g ns) k u (index_of p d.0) ≡ true) c.2 (subst (λ (u : ℕ). agree (guessed_web g ns) k x u ≡ true) d.2 t) in
    let there = agree_is p g ns qs h (suc k) c.0 d.0 c.1 d.1 ∙ s c.0 d.0 c.1 d.1 (sym (agree_is p g ns qs h k c.0 d.0 c.1 d.1) ∙ back) in
    subst (λ (u : ℕ). agree (guessed_web g ns) (suc k) x u ≡ true) (sym d.2) (subst (λ (u : ℕ). agree (guessed_web g ns) (suc k) u (index_of p d.0) ≡ true) (sym c.2) there)

pub colours_are : (p : Pair) (g : Graph) (ns : List (ℕ × ℕ)) (qs : List (Guess Node)) (c : Classes) (k : ℕ) → AreTold p g ns qs → AreColours (guessed_web g ns) k (class_in c)
    → AreColours (under (web_of p) qs) k (class_of_node p c)
colours_are p g ns qs c k h colours a b na nb =
    let law = colours (index_of p a) (index_of p b) (goes_to p g a h.graph na) (goes_to p g b h.graph nb) in
    ((λ e. sym (agree_is p g ns qs h k a b na nb) ∙ law.0 e), (λ t. law.1 (agree_is p g ns qs h k a b na nb ∙ t)))

pub stable_classes : (p : Pair) (g : Graph) (ns : List (ℕ × ℕ)) (qs : List (Guess Node)) (c : Classes) → AreTold p g ns qs → AreSettled (guessed_web g ns) c → AreStableClasses p qs c
stable_classes p g ns qs c h s = record {
  round = s.round;
  stable = stable_is p g ns qs h s.round s.stable;
  even = λ k l. even_is p g ns qs h k (s.even k l);
  colours = colours_are p g ns qs c s.round h s.colours;
}

pub refuted_is : (p : Pair) (g : Graph) (ns : List (ℕ × ℕ)) (qs : List (Guess Node)) (r : ℕ) → AreTold p g ns qs → IsRefuted (guessed_web g ns) r → IsRefuted (under (web_of p) qs) r
refuted_is p g ns qs r h u =
    let c = came_from p g u.node h.graph u.uneven.node in
    let counts : on_left (guessed_web g ns) r (index_of p c.0) ≢ on_right (guessed_web g ns) r (index_of p c.0)
    = subst (λ (y : ℕ). on_left (guessed_web g ns) r y ≢ on_right (guessed_web g ns) r y) c.2 u.uneven.counts in
    record {
      node = c.0;
      uneven = record { node = c.1; counts = λ e. counts (sym (left_is p g ns qs h r c.0 c.1) ∙ (e ∙ right_is p g ns qs h r c.0 c.1)) };
      before = λ k l. even_is p g ns qs h k (u.before k l);
    }

pub node_test : (p : Pair) (qs : List (Guess Node)) (c : Classes) (k : ℕ) (a b : Node) → AreColours (under (web_of p) qs) k (class_of_node p c) → IsNode (web_of p) a → IsNode (web_of p) b
    → agree (under (web_of p) qs) k a b ≡ (class_of_node p c a == class_of_node p c b)
node_test p qs c k a b colours na nb = same_truth _ _
    (λ t. (Decides-eqb (class_of_node p c a) (class_of_node p c b)).1 ((colours a b na nb).1 t))
    (λ t. (colours a b na nb).0 ((Decides-eqb (class_of_node p c a) (class_of_node p c b)).0 t))

-- a class has as many nodes on a side as agree there
pub lefts_are : (p : Pair) (g : Graph) (qs : List (Guess Node)) (c : Classes) (k : ℕ) (a : Node) → IsGraphOf p g → AreColours (under (web_of p) qs) k (class_of_node p c) → IsNode (web_of p) a
    → on_left (under (web_of p) qs) k a ≡ left_members g c (class_of_node p c a)
lefts_are p g qs c k a h colours n =
    count_same (agree (under (web_of p) qs) k a) (λ b. class_of_node p c a == class_of_node p c b) (web_of p).left (λ b i. node_test p qs c k a b colours n (inl i))
    ∙ (sym (count-map (λ x. class_of_node p c a == class_in c x) (index_of p) (web_of p).left) ∙ ap (count_by (λ x. class_of_node p c a == class_in c x)) (sym h.renamed.left))

pub rights_are : (p : Pair) (g : Graph) (qs : List (Guess Node)) (c : Classes) (k : ℕ) (a : Node) → IsGraphOf p g → AreColours (under (web_of p) qs) k (class_of_node p c) → IsNode (web_of p) a
    → on_right (under (web_of p) qs) k a ≡ right_members g c (class_of_node p c a)
rights_are p g qs c k a h colours n =
    count_same (agree (under (web_of p) qs) k a) (λ b. class_of_node p c a == class_of_node p c b) (web_of p).right (λ b i. node_test p qs c k a b colours n (inr i))
    ∙ (sym (count-map (λ x. class_of_node p c a == class_in c x) (index_of p) (web_of p).right) ∙ ap (count_by (λ x. class_of_node p c a == class_in c x)) (sym h.renamed.right))
