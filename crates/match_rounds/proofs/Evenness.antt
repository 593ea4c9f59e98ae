-- The flag of unequal counts, and rounds with unequal counts.
use Rattle.std.proofs.Common.{◌≡◌, ◌≢◌, inl, inr, ◌<◌, ◌≤◌, ◌+◌, ◌-◌, ◌*◌, ◌==◌, ℕ, Bool, true, false, count_by, ◌++◌, slice_index, sym, subst, ◌∙◌, ap, arith, true≢false}
use Rattle.base_laws.proofs.Tests.{same_truth}
use Rattle.std.proofs.Math.Decide.{ℕ_discrete}
use Rattle.std.proofs.lemmas.Bool.Decides.{Decides-eqb}
use Rattle.round_laws.specs.Web.{Web, IsNode, agree, on_left, on_right, IsEven, IsUneven}
use Rattle.round_laws.specs.Colours.{AreColours}
use Rattle.round_laws.proofs.Agree.{count_same}
use Rattle.match_laws.specs.Circuits.{numbers_from}
use Rattle.match_graph.specs.declared.graph.Graph.{Graph}
use Rattle.match_graph.specs.Graph.{graph_web, left_of, nodes_of}
use Rattle.match_graph.proofs.Placed.{numbers_join}
use Rattle.match_rounds.specs.declared.classes.Classes.{Classes}
use Rattle.match_rounds.specs.Classes.{IsPartition, class_in, class_count, members}
use Rattle.match_rounds.specs.Sides.{left_members, right_members}
use Rattle.match_rounds.proofs.Started.{node_below, below_node}
use Rattle.match_rounds.proofs.Turned.{count_append}

-- the graph, where nodes look alike by this test
abbrev pub with_alike : Graph → (ℕ → ℕ → Bool) → Web ℕ
with_alike g same = record { left = (graph_web g).left; right = (graph_web g).right; is = (graph_web g).is; alike = same; near = (graph_web g).near }

pub both_sides : (g : Graph) (c : Classes) (d : ℕ) → left_of g ≤ nodes_of g → members c.class_of.items d (nodes_of g) ≡ left_members g c d + right_members g c d
both_sides g c d l =
    let n : left_of g + (nodes_of g - left_of g) ≡ nodes_of g = omega arith in
    let z : 0 + left_of g ≡ left_of g = omega arith in
    let joined : numbers_from 0 (nodes_of g) ≡ numbers_from 0 (left_of g) ++ numbers_from (left_of g) (nodes_of g - left_of g)
    = ap (numbers_from 0) (sym n) ∙ (sym (numbers_join 0 (left_of g) (nodes_of g - left_of g)) ∙ ap (λ (x : ℕ). numbers_from 0 (left_of g) ++ numbers_from x (nodes_of g - left_of g)) z) in
    ap (count_by (λ a. d == class_in c a)) joined ∙ count_append (λ a. d == class_in c a) (numbers_from 0 (left_of g)) (numbers_from (left_of g) (nodes_of g - left_of g))

-- a class is even exactly where it has as many nodes on both sides
pub even_class : (g : Graph) (c : Classes) (d : ℕ) → IsPartition c (left_of g) (nodes_of g) → d < class_count c → 2 * slice_index c.counts.left.items d ≡ slice_index c.counts.size.items d
    → left_members g c d ≡ right_members g c d
even_class g c d h l e =
    let left = h.counted.left_is d l in
    let size = h.counted.size_is d l in
    let sum = both_sides g c d h.inside in
    omega arith

pub uneven_class : (g : Graph) (c : Classes) (d : ℕ) → IsPartition c (left_of g) (nodes_of g) → d < class_count c → 2 * slice_index c.counts.left.items d ≢ slice_index c.counts.size.items d
    → left_members g c d ≢ right_members g c d
uneven_class g c d h l not e =
    let left = h.counted.left_is d l in
    let size = h.counted.size_is d l in
    let sum = both_sides g c d h.inside in
    not (omega arith)

-- without the flag all classes are even
pub all_even : (g : Graph) (c : Classes) → IsPartition c (left_of g) (nodes_of g) → c.counts.is_uneven ≡ false → (d : ℕ) → d < class_count c → left_members g c d ≡ right_members g c d
all_even g c h flag d l = elim (ℕ_discrete (2 * slice_index c.counts.left.items d) (slice_index c.counts.size.items d)) [
  | yes e ↦ even_class g c d h l e
  | no not ↦ absurd (true≢false (sym (h.counted.flagged.flag.1 (d, l, not)) ∙ flag))
]

-- and with it a node's class is not
pub some_uneven : (g : Graph) (c : Classes) → IsPartition c (left_of g) (nodes_of g) → c.counts.is_uneven ≡ true
    → (a : ℕ) × (a < nodes_of g) × (left_members g c (class_in c a) ≢ right_members g c (class_in c a))
some_uneven g c h flag =
    let u = h.counted.flagged.flag.0 flag in
    let some = h.classes.some u.0 u.1 in
    let fits = h.classes.fits u.0 u.1 in
    let class_is = (h.classes.stands u.0 u.1 (slice_index c.begin.items u.0) (omega arith)).1 (omega arith, omega arith) in (
      slice_index c.order.node_at.items (slice_index c.begin.items u.0),
      h.classes.placed.node_below (slice_index c.begin.items u.0) (omega arith),
      subst (λ (d : ℕ). left_members g c d ≢ right_members g c d) (sym class_is) (uneven_class g c u.0 h u.1 u.2),
    )

pub test_is : (w : Web ℕ) (k : ℕ) (colour : ℕ → ℕ) → AreColours w k colour → (a b : ℕ) → IsNode w a → IsNode w b → agree w k a b ≡ (colour a == colour b)
test_is w k colour h a b i j = same_truth _ _
    (λ t. (Decides-eqb (colour a) (colour b)).1 ((h a b i j).1 t))
    (λ t. (h a b i j).0 ((Decides-eqb (colour a) (colour b)).0 t))

lefts : (g : Graph) (same : ℕ → ℕ → Bool) (c : Classes) (k a : ℕ) → AreColours (with_alike g same) k (class_in c) → IsNode (graph_web g) a → on_left (with_alike g same) k a ≡ left_members g c (class_in c a)
lefts g same c k a h n = count_same (agree (with_alike g same) k a) (λ x. class_in c a == class_in c x) (graph_web g).left (λ x i. test_is (with_alike g same) k (class_in c) h a x n (inl i))

rights : (g : Graph) (same : ℕ → ℕ → Bool) (c : Classes) (k a : ℕ) → AreColours (with_alike g same) k (class_in c) → IsNode (graph_web g) a → on_right (with_alike g same) k a ≡ right_members g c (class_in c a)
rights g same c k a h n = count_same (agree (with_alike g same) k a) (λ x. class_in c a == class_in c x) (graph_web g).right (λ x i. test_is (with_alike g same) k (class_in c) h a x n (inr i))

pub even_round : (g : Graph) (same : ℕ → ℕ → Bool) (c : Classes) (k : ℕ) → IsPartition c (left_of g) (nodes_of g) → AreColours (with_alike g same) k (class_in c) → c.counts.is_uneven ≡ false → IsEven (with_alike g same) k
even_round g same c k h colours flag a n =
    lefts g same c k a colours n ∙ (all_even g c h flag (class_in c a) (h.classes.below a (node_below g a n)) ∙ sym (rights g same c k a colours n))

pub uneven_round : (g : Graph) (same : ℕ → ℕ → Bool) (c : Classes) (k : ℕ) → IsPartition c (left_of g) (nodes_of g) → AreColours (with_alike g same) k (class_in c) → c.counts.is_uneven ≡ true
    → (a : ℕ) × IsUneven (with_alike g same) k a
uneven_round g same c k h colours flag =
    let u = some_uneven g c h flag in
    let n = below_node g u.0 u.1 in
    (u.0, record { node = n; counts = λ e. u.2 (sym (lefts g same c k u.0 colours n) ∙ (e ∙ rights g same c k u.0 colours n)) })
