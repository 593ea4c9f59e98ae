use Rattle.std.proofs.Common.{arith}
use Rattle.tile_index.specs.declared.tree.Node.{Node}
use Rattle.tile_index.proofs.Walks.{node_pushed}
use Rattle.tile_index.proofs.tree.push_node.Goals as goal

pub returns : goal.returns
returns c =
    let node : Node = record { hull = c.args.hull; from = c.args.from; to = c.args.to; skip = c.args.skip } in
    let some = c.requires.some in
    rw (c.in_ok-push.ensures {u = tt}).items
    (node_pushed c.args.entries.now c.args.nodes.now.items node (omega arith) c.requires.inside c.requires.nodes c.requires.above c.requires.hull)
