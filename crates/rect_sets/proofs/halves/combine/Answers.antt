use Rattle.rect_sets.proofs.Combining.{blocks_both, balanced_both, edges_both}
use Rattle.rect_sets.proofs.halves.combine.Goals as goal

pub blocks_in_parts-requires-clause-edges : goal.blocks_in_parts-requires-clause-edges
blocks_in_parts-requires-clause-edges c = rw c.in_ok-edges.ensures (edges_both c.args.a.now c.args.b.now c.requires.a c.requires.b)

pub blocks_in_parts-requires-clause-balanced : goal.blocks_in_parts-requires-clause-balanced
blocks_in_parts-requires-clause-balanced c = rw c.in_ok-edges.ensures (balanced_both c.args.a.now c.args.b.now)

pub returns : goal.returns
returns c =
    let h = rw c.in_ok-edges.ensures at c.in_ok-rects.ensures in
    blocks_both c.args.op c.args.a.now c.args.b.now c.in_ok-rects.rects.items c.requires.a c.requires.b h
