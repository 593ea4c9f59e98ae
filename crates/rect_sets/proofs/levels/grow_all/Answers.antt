use Rattle.std.proofs.Common.{arith, pos}
use Rattle.geo_base.specs.declared.shapes.Rect.{Rect}
use Rattle.rect_sets.proofs.Ranging.{grown_none, grown_more, grown_end}
use Rattle.rect_sets.proofs.levels.grow_all.Goals as goal

pub loop-rect-init : goal.loop-rect-init
loop-rect-init c = rw c.in_ok-out.ensures.items (grown_none c.args.above.now c.args.below.now)

pub loop-rect-preserved : goal.loop-rect-preserved
loop-rect-preserved c =
    let zero : Rect = record { x1 = pos 0; y1 = pos 0; x2 = pos 0; y2 = pos 0 } in
    rw c.in_ok-push.ensures.items (grown_more c.args.above.now c.args.below.now c.loop-rect.out.items c.loop-rect.rect-index zero c.grown-rect.result (omega arith) c.loop-rect.invariant c.grown-rect.ensures)

pub returns : goal.returns
returns c = grown_end c.args.above.now c.args.below.now c.loop-rect.out.items c.loop-rect.rect-index (omega arith) c.loop-rect.invariant
