use Rattle.std.proofs.Common.{arith, pos}
use Rattle.rect_sets.specs.declared.row.Edge.{Edge}
use Rattle.rect_sets.proofs.Summing.{ends_more, ends_all}
use Rattle.rect_sets.proofs.sums.ends_of.Goals as goal

pub loop-edge-preserved : goal.loop-edge-preserved
loop-edge-preserved c =
    let zero : Edge = record { x = pos 0; y1 = pos 0; y2 = pos 0; first = pos 0; second = pos 0 } in
    rw (c.in_ok-push-2.ensures.items, c.in_ok-push.ensures.items, c.lower.ensures, c.upper.ensures) (ends_more c.args.edges.now c.loop-edge.edge-index zero c.loop-edge.ends.items (omega arith) c.loop-edge.invariant)

pub returns : goal.returns
returns c = ends_all c.args.edges.now c.loop-edge.edge-index c.loop-edge.ends.items (omega arith) c.loop-edge.invariant
