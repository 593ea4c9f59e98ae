-- How many ends a node has at the members of a class.
use Rattle.std.proofs.Common.{◌≡◌, ◌≢◌, ◌<◌, ◌+◌, ◌==◌, ◌&&◌, ◌||◌, ℕ, suc, Bool, true, false, cond, count_by, List, [], ◌∷◌, ◌++◌, length, map, slice_index, refl, sym, ◌∙◌, ap, arith, true≢false}
use Rattle.base_laws.proofs.Tests.{same_truth}
use Rattle.std.specs.List.{flat_map, list_any}
use Rattle.std.proofs.lemmas.Bool.Decides.{Decides-eqb}
use Rattle.std.proofs.lemmas.List.{map-append}
use Rattle.round_laws.specs.Web.{Port, same_port}
use Rattle.round_laws.specs.Colours.{ends_of}
use Rattle.round_laws.proofs.Agree.{count-cons, count_same, count_none}
use Rattle.round_laws.proofs.Fast.{count_split}
use Rattle.round_laws.proofs.Stable.{near_node}
use Rattle.match_graph.specs.declared.graph.Graph.{Graph}
use Rattle.match_graph.specs.Graph.{IsGraph, graph_web, plain_end, ends_at, nodes_of}
use Rattle.match_rounds.specs.Turned.{TouchLaw}
use Rattle.match_rounds.proofs.Counting.{any_index, first_apart, rest_apart}
use Rattle.match_rounds.proofs.Started.{node_below, below_node}

split_or : (p a b : Bool) → (a ≡ true → b ≡ false) → ◌≡◌ {A = ℕ} (cond (p && (a || b)) 1 0) (cond (p && a) 1 0 + cond (p && b) 1 0)
split_or false a b h = refl
split_or true true true h = absurd (true≢false (h refl))
split_or true true false h = refl
split_or true false true h = refl
split_or true false false h = refl

pub count_append : {X : Type 0} (p : X → Bool) (xs ys : List X) → count_by p (xs ++ ys) ≡ count_by p xs + count_by p ys
count_append p [] ys = omega arith
count_append p (x ∷ xs) ys =
    let a = count-cons p x (xs ++ ys) in
    let b = count-cons p x xs in
    let h = count_append p xs ys in
    omega arith

-- as many as the sums over them say
summed : (g : Graph) → IsGraph g → (a : ℕ) (port : Port) → a < nodes_of g → (xs : List ℕ) → ((i : ℕ) → i < length xs → slice_index xs i < nodes_of g)
    → ((i j : ℕ) → i < length xs → j < i → slice_index xs j ≢ slice_index xs i)
    → ends_of (λ x. x) port a (map plain_end (flat_map (ends_at g) xs)) ≡ count_by (λ e. same_port port e.port && list_any (λ x. x == e.node) xs) (map plain_end (ends_at g a))
summed g h a port la [] below once = sym (count_none (λ e. same_port port e.port && list_any (λ x. x == e.node) []) (map plain_end (ends_at g a)) (λ e i. none (same_port port e.port)))
  where
    none : (b : Bool) → (b && false) ≡ false
    none true = refl
    none false = refl
summed g h a port la (x ∷ xs) below once =
    let here = h.turned x a port (below 0 (omega arith)) la in
    let rest = summed g h a port la xs (λ i l. below (suc i) (omega arith)) (rest_apart x xs once) in
    let parts : ends_of (λ y. y) port a (map plain_end (flat_map (ends_at g) (x ∷ xs))) ≡ ends_of (λ y. y) port a (map plain_end (ends_at g x)) + ends_of (λ y. y) port a (map plain_end (flat_map (ends_at g) xs))
    = ap (λ es. ends_of (λ (y : ℕ). y) port a es) (map-append plain_end (ends_at g x) (flat_map (ends_at g) xs))
    ∙ count_append (λ e. same_port port e.port && (a == e.node)) (map plain_end (ends_at g x)) (map plain_end (flat_map (ends_at g) xs)) in
    let split = count_split (λ e. same_port port e.port && ((x == e.node) || list_any (λ y. y == e.node) xs)) (λ e. same_port port e.port && (x == e.node)) (λ e. same_port port e.port && list_any (λ y. y == e.node) xs) (map plain_end (ends_at g a))
    (λ e i. split_or (same_port port e.port) (x == e.node) (list_any (λ y. y == e.node) xs) (λ t. ap (λ (z : ℕ). list_any (λ y. y == z) xs) (sym ((Decides-eqb x e.node).0 t)) ∙ first_apart x xs once)) in
    parts ∙ (ap (λ (k : ℕ). k + ends_of (λ y. y) port a (map plain_end (flat_map (ends_at g) xs))) here
    ∙ (ap (λ (k : ℕ). ends_of (λ y. y) port x (map plain_end (ends_at g a)) + k) rest ∙ sym split))

pub touched : TouchLaw
touched g colour c xs h all a port la =
    summed g h a port la xs all.below all.once
    ∙ count_same (λ e. same_port port e.port && list_any (λ x. x == e.node) xs) (λ e. same_port port e.port && (c == colour e.node)) (map plain_end (ends_at g a))
    (λ e i. ap (λ (b : Bool). same_port port e.port && b) (same_truth (list_any (λ x. x == e.node) xs) (c == colour e.node)
    (λ t. let f = any_index xs e.node t in (Decides-eqb c (colour e.node)).1 (sym (all.class f.0 f.1) ∙ ap colour f.2))
    (λ t. all.found e.node (node_below g e.node (near_node (graph_web g) h.web a (below_node g a la) e i)) (sym ((Decides-eqb c (colour e.node)).0 t)))))
