-- The ends of members are at nodes.
use Rattle.std.proofs.Common.{inl, inr, ◌<◌, ℕ, zero, suc, List, [], ◌∷◌, length, slice_index, refl, sym, subst, arith}
use Rattle.std.specs.List.{flat_map}
use Rattle.std.specs.List.Sorted.{IsPermutation}
use Rattle.plain_netlist.specs.Lists.{IsListed}
use Rattle.round_laws.proofs.Stable.{near_node, in_either}
use Rattle.match_laws.proofs.Sums.{map_has}
use Rattle.match_graph.specs.declared.graph.Graph.{Graph}
use Rattle.match_graph.specs.declared.graph.Port.TheVariants as port
use Rattle.match_graph.specs.declared.graph.End.{End}
use Rattle.match_graph.specs.Filling.{end}
use Rattle.match_graph.specs.Graph.{IsGraph, graph_web, plain_end, ends_at, nodes_of}
use Rattle.match_rounds.specs.Touching.{end_at}
use Rattle.match_rounds.proofs.Reordered.{reordered}
use Rattle.match_rounds.proofs.Started.{node_below, below_node}

listed_at : (xs : List End) (k : ℕ) → k < length xs → IsListed (end_at xs k) xs
listed_at [] k l = absurd (omega arith)
listed_at (x ∷ xs) zero l = inl refl
listed_at (x ∷ xs) (suc k) l = inr (listed_at xs k (omega arith))

of_members : (g : Graph) → IsGraph g → (xs : List ℕ) → ((i : ℕ) → i < length xs → slice_index xs i < nodes_of g) → (e : End) → IsListed e (flat_map (ends_at g) xs) → e.node < nodes_of g
of_members g h [] below e i = absurd i
of_members g h (x ∷ xs) below e i = elim (in_either e (ends_at g x) (flat_map (ends_at g) xs) i) [
  | inl l ↦ node_below g e.node (near_node (graph_web g) h.web x (below_node g x (below 0 (omega arith))) (plain_end e) (map_has plain_end e (ends_at g x) l))
  | inr r ↦ of_members g h xs (λ j l. below (suc j) (omega arith)) e r
]

pub nodes_below : (g : Graph) (xs : List ℕ) (es : List End) → IsGraph g → ((i : ℕ) → i < length xs → slice_index xs i < nodes_of g) → IsPermutation (flat_map (ends_at g) xs) es
    → (k : ℕ) → k < length es → (end_at es k).node < nodes_of g
nodes_below g xs es h below perm k l =
    let r = reordered (flat_map (ends_at g) xs) es (end port.EitherEnd 0) perm in
    let long = r.long in
    subst (λ (e : End). e.node < nodes_of g) (sym (r.is k (omega arith)))
    (of_members g h xs below (end_at (flat_map (ends_at g) xs) (r.from k)) (listed_at (flat_map (ends_at g) xs) (r.from k) (r.from_below k (omega arith))))
