use Rattle.rect_sets.proofs.Sorting.{all_permuted, balanced_permuted, blocks_permuted}
use Rattle.rect_sets.proofs.strips.blocks.Goals as goal

pub sorted_blocks-requires-clause-edges : goal.sorted_blocks-requires-clause-edges
sorted_blocks-requires-clause-edges c = rw c.deref.ensures.value (all_permuted c.args.edges.items c.sort_edges.new.edges.items c.in_ok-sort_edges.ensures.permutation c.requires.edges)

pub sorted_blocks-requires-clause-balanced : goal.sorted_blocks-requires-clause-balanced
sorted_blocks-requires-clause-balanced c = rw c.deref.ensures.value (balanced_permuted c.args.edges.items c.sort_edges.new.edges.items c.in_ok-sort_edges.ensures.permutation c.requires.balanced)

pub returns : goal.returns
returns c =
    let h = rw c.deref.ensures.value at c.in_ok-rects.ensures in
    blocks_permuted c.args.op c.args.edges.items c.sort_edges.new.edges.items _ c.in_ok-sort_edges.ensures.permutation h
