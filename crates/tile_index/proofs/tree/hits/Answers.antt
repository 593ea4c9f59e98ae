use Rattle.std.proofs.Common.{◌∙◌, pos, sym, arith}
use Rattle.tile_index.specs.declared.tree.Node.{Node}
use Rattle.tile_index.proofs.Walks.{node_at, walked_past, walked_leaf, walked_in}
use Rattle.tile_index.proofs.tree.hits.Goals as goal

abbrev zero_node : Node
zero_node = record { hull = record { x1 = pos 0; y1 = pos 0; x2 = pos 0; y2 = pos 0 }; from = 0; to = 0; skip = 0 }

pub loop-i-smaller-then-not-meets : goal.loop-i-smaller-then-not-meets
loop-i-smaller-then-not-meets c =
    let low = (node_at c.args.entries.now c.args.nodes.now c.loop-i.i zero_node c.requires.nodes_are c.loop-i-test.true c.loop-i.invariant.inside).low in
    let above = c.loop-i-test.true in
    omega (arith, low, above)

pub loop-i-preserved-then-not-meets : goal.loop-i-preserved-then-not-meets
loop-i-preserved-then-not-meets c =
    walked_past c.args.w.now c.args.entries.now c.args.nodes.now c.loop-i.i zero_node c.loop-i.found.items c.requires.nodes_are c.loop-i-test.true c.loop-i.invariant
    (sym c.meets.ensures.exact ∙ c.if-not-meets.true)

pub push_under-requires : goal.push_under-requires
push_under-requires c =
    let nd = node_at c.args.entries.now c.args.nodes.now c.loop-i.i zero_node c.requires.nodes_are c.loop-i-test.true c.loop-i.invariant.inside in
    record { range_is = nd.range; within = nd.inside }

pub loop-i-preserved-in-Continue-1 : goal.loop-i-preserved-in-Continue-1
loop-i-preserved-in-Continue-1 c =
    rw (c.in_ok-push_under.ensures {u = tt})
    (walked_leaf c.args.w.now c.args.entries.now c.args.nodes.now c.loop-i.i zero_node c.loop-i.found.items c.requires.nodes_are c.loop-i-test.true c.loop-i.invariant
    c.if-node-i.true)

pub loop-i-preserved : goal.loop-i-preserved
loop-i-preserved c =
    walked_in c.args.w.now c.args.entries.now c.args.nodes.now c.loop-i.i zero_node c.loop-i.found.items c.requires.nodes_are c.loop-i-test.true c.loop-i.invariant
    c.if-node-i.false
