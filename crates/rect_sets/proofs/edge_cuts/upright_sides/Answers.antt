use Rattle.rect_sets.specs.Edges.{IsEdge}
use Rattle.rect_sets.proofs.Halving.{upright, left_edges, right_edges}
use Rattle.rect_sets.proofs.edge_cuts.upright_sides.Goals as goal

pub sums-requires : goal.sums-requires
sums-requires c = rw (c.deref.ensures.value, c.in_ok-low.ensures.low) (left_edges IsEdge c.args.cut.now.at c.args.edges.now c.requires.edges)

pub sums-requires-2 : goal.sums-requires-2
sums-requires-2 c = rw (c.deref-2.ensures.value, c.in_ok-low.ensures.high) (right_edges IsEdge c.args.cut.now.at c.args.edges.now c.requires.edges)

pub returns : goal.returns
returns c =
    let left = rw (c.in-Some.is, c.deref.ensures.value, c.in_ok-low.ensures.low) at c.in_ok-left.ensures in
    let right = rw (c.in-Some-2.is, c.deref-2.ensures.value, c.in_ok-low.ensures.high) at c.in_ok-right.ensures in
    rw (c.in_ok-extend_from_slice.ensures.items, c.in_ok-extend_from_slice-2.ensures.items, c.deref-3.ensures.value, c.deref-4.ensures.value, c.in_ok-low.ensures.low, c.in_ok-low.ensures.high) (upright c.args.cut.now.at c.args.edges.now _ _ c.requires.edges c.requires.balanced left right)
