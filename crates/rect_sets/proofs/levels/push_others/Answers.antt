use Rattle.std.proofs.Common.{arith, pos}
use Rattle.geo_base.specs.declared.shapes.Rect.{Rect}
use Rattle.rect_sets.proofs.Ranging.{added_none, added_more, added_end}
use Rattle.rect_sets.proofs.levels.push_others.Goals as goal

pub loop-rect-init : goal.loop-rect-init
loop-rect-init c = added_none c.args.below.now c.args.out.now.items c.args.above.now

pub loop-rect-preserved : goal.loop-rect-preserved
loop-rect-preserved c =
    let zero : Rect = record { x1 = pos 0; y1 = pos 0; x2 = pos 0; y2 = pos 0 } in
    added_more c.args.below.now c.args.above.now c.args.out.now.items c.loop-rect.out.items c.push_other.new.out.items c.loop-rect.rect-index zero (omega arith) c.loop-rect.invariant c.in_ok-push_other.ensures

pub returns : goal.returns
returns c = added_end c.args.below.now c.args.above.now c.args.out.now.items c.loop-rect.out.items c.loop-rect.rect-index (omega arith) c.loop-rect.invariant
