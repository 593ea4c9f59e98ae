use Rattle.std.proofs.Common.{arith, pos}
use Rattle.rect_sets.specs.declared.row.Edge.{Edge}
use Rattle.rect_sets.specs.EdgeCuts.{edges_left, edges_right}
use Rattle.rect_sets.proofs.Halving.{edges_more, edges_all, left_append, right_append}
use Rattle.rect_sets.proofs.edge_cuts.parted.Goals as goal

pub loop-edge-preserved : goal.loop-edge-preserved
loop-edge-preserved c =
    let zero : Edge = record { x = pos 0; y1 = pos 0; y2 = pos 0; first = pos 0; second = pos 0 } in
    record {
      low = rw c.in_ok-push_left.ensures (edges_more (edges_left c.args.cut.now.at) (left_append c.args.cut.now.at) c.args.edges.now c.loop-edge.edge-index zero c.loop-edge.low.items (omega arith) c.loop-edge.invariant.low);
      high = rw c.in_ok-push_right.ensures (edges_more (edges_right c.args.cut.now.at) (right_append c.args.cut.now.at) c.args.edges.now c.loop-edge.edge-index zero c.loop-edge.high.items (omega arith) c.loop-edge.invariant.high);
    }

pub returns-clause-low : goal.returns-clause-low
returns-clause-low c = edges_all (edges_left c.args.cut.now.at) c.args.edges.now c.loop-edge.edge-index c.loop-edge.low.items (omega arith) c.loop-edge.invariant.low

pub returns-clause-high : goal.returns-clause-high
returns-clause-high c = edges_all (edges_right c.args.cut.now.at) c.args.edges.now c.loop-edge.edge-index c.loop-edge.high.items (omega arith) c.loop-edge.invariant.high
