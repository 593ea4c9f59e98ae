use Rattle.std.proofs.Common.{◌≡◌, ◌*◌, ℕ, Bool, List, ◌++◌, length, sym, subst, ◌∙◌}
use Rattle.net_model.specs.Rows.{plain_circuit}
use Rattle.match_types.specs.Plain.{pair_of}
use Rattle.match_graph.specs.declared.edges.Edge.{Edge}
use Rattle.match_graph.specs.declared.graph.Graph.{Graph}
use Rattle.match_graph.specs.Numbering.{AreSizesOf, end_of}
use Rattle.match_graph.specs.Kinds.{AreKindsOf, circuit_owns}
use Rattle.match_graph.specs.Filling.{AreEndsOf}
use Rattle.match_graph.proofs.Built.{graph_is, built, built_between, right_sizes}
use Rattle.match_graph.proofs.graph.Graph.of_pair.Goals as goal
use Rattle.match_graph.proofs.graph.Graph.of_pair.Goals.{In_ok-right_sizes}

-- the right circuit is numbered behind the left one
behind : (c : In_ok-right_sizes) → AreSizesOf c.in_ok-right_sizes.right_sizes (end_of c.in_ok-left_sizes.left_sizes) (plain_circuit c.args.right.now)
behind c = subst (λ (n : ℕ). AreSizesOf c.in_ok-right_sizes.right_sizes n (plain_circuit c.args.right.now)) c.end.ensures c.in_ok-right_sizes.ensures.sizes

pub list_edges-requires-clause-right_sizes : goal.list_edges-requires-clause-right_sizes
list_edges-requires-clause-right_sizes c =
    right_sizes (pair_of c.args.left.now c.args.right.now c.args.children.now) c.in_ok-left_sizes.left_sizes c.in_ok-right_sizes.right_sizes c.in_ok-left_sizes.ensures.sizes
    (behind (goal.at.list_edges-requires-clause-right_sizes c).In_ok-right_sizes)

pub begins_of-requires-clause-nodes : goal.begins_of-requires-clause-nodes
begins_of-requires-clause-nodes c =
    built_between (pair_of c.args.left.now c.args.right.now c.args.children.now) c.in_ok-left_sizes.left_sizes c.in_ok-right_sizes.right_sizes c.deref.result.now c.end-count.result c.requires.left c.requires.right
    c.in_ok-left_sizes.ensures.sizes (behind (goal.at.begins_of-requires-clause-nodes c).In_ok-right_sizes) (c.deref.ensures.value ∙ c.in_ok-edges.ensures) c.end-count.ensures

pub ends_of-requires-clause-nodes : goal.ends_of-requires-clause-nodes
ends_of-requires-clause-nodes c =
    built_between (pair_of c.args.left.now c.args.right.now c.args.children.now) c.in_ok-left_sizes.left_sizes c.in_ok-right_sizes.right_sizes c.deref-2.result.now c.end-count.result c.requires.left c.requires.right
    c.in_ok-left_sizes.ensures.sizes (behind (goal.at.ends_of-requires-clause-nodes c).In_ok-right_sizes) (c.deref-2.ensures.value ∙ c.in_ok-edges.ensures) c.end-count.ensures

pub returns : goal.returns
returns c =
    let p = pair_of c.args.left.now c.args.right.now c.args.children.now in
    let g : Graph = record { left = c.in_ok-left_sizes.left_sizes; right = c.in_ok-right_sizes.right_sizes; begins = c.in_ok-begins.begins; ends = c.in_ok-ends.ends; kinds = c.in_ok-list_kinds.field-0 } in
    let same : c.deref-2.result.now ≡ c.deref.result.now = c.deref-2.ensures.value ∙ sym c.deref.ensures.value in
    let count : length c.in_ok-ends.ends.items ≡ 2 * length c.deref.result.now = subst (λ (es : List Edge). length c.in_ok-ends.ends.items ≡ 2 * length es) same c.in_ok-ends.ensures.count in
    let ends : AreEndsOf c.in_ok-begins.begins.items c.in_ok-ends.ends.items c.deref.result.now c.end-count.result
    = subst (λ (es : List Edge). AreEndsOf c.in_ok-begins.begins.items c.in_ok-ends.ends.items es c.end-count.result) same
    (subst (λ (bs : List ℕ). AreEndsOf bs c.in_ok-ends.ends.items c.deref-2.result.now c.end-count.result) c.deref-3.ensures.value c.in_ok-ends.ensures.ends) in
    graph_is (pair_of c.args.left.now c.args.right.now c.args.children.now)
    (record { left = c.in_ok-left_sizes.left_sizes; right = c.in_ok-right_sizes.right_sizes; begins = c.in_ok-begins.begins; ends = c.in_ok-ends.ends; kinds = c.in_ok-list_kinds.field-0 })
    c.requires.left c.requires.right
    (built (pair_of c.args.left.now c.args.right.now c.args.children.now)
    (record { left = c.in_ok-left_sizes.left_sizes; right = c.in_ok-right_sizes.right_sizes; begins = c.in_ok-begins.begins; ends = c.in_ok-ends.ends; kinds = c.in_ok-list_kinds.field-0 })
    c.deref.result.now c.end-count.result c.in_ok-left_sizes.ensures.sizes (behind (goal.at.returns c).In_ok-right_sizes) (c.deref.ensures.value ∙ c.in_ok-edges.ensures) c.end-count.ensures
    c.in_ok-begins.ensures count ends
    (subst (λ (t : Bool). AreKindsOf c.in_ok-list_kinds.field-0.items (circuit_owns t (plain_circuit c.args.left.now) ++ circuit_owns t (plain_circuit c.args.right.now))) c.told.ensures c.in_ok-list_kinds.ensures))
