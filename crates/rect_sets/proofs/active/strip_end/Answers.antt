use Rattle.std.proofs.Common.{rules, arith, inl, inr, w64}
use mir.Val.{SFits, to_z}
use Rattle.std.proofs.lemmas.Int.{ints, to_z-of_z}
use Rattle.rect_sets.specs.Actives.{edge_at}
use Rattle.rect_sets.proofs.Merging.{end_more}
use Rattle.rect_sets.proofs.active.strip_end.Goals as goal
use Rattle.rect_sets.proofs.active.strip_end.Goals.{then-edge-end, else-edge-end}

pub loop-edge-preserved : goal.loop-edge-preserved
loop-edge-preserved c =
    let f : SFits w64 (edge_at c.args.active.now c.loop-edge.edge-index).y2 = search rules in
    let fy : SFits w64 c.args.y = search rules in
    let inv = rw (to_z-of_z w64 c.args.y fy) at c.loop-edge.invariant in
    rw (to_z-of_z w64 c.args.y fy) (end_more c.args.y c.args.active.now c.args.edges.now c.args.at c.loop-edge.edge-index (to_z w64 c.loop-edge.end-bits) (to_z w64 c.if-edge-end.end-bits) inv (omega arith) (elim c.if-edge-end.branch [
      | then-edge-end w ↦ inl (omega (arith, ints, w.end-is), omega (arith, ints, w.if-edge-end.true))
      | else-edge-end w ↦ inr (omega (arith, ints, w.end-is), omega (arith, ints, w.if-edge-end.false))
    ]))
