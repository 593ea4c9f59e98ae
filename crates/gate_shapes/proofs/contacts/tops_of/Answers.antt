use Rattle.std.proofs.Common.{◌∙◌, pos, arith}
use Rattle.geo_base.specs.declared.shapes.Rect.{Rect}
use Rattle.gate_shapes.proofs.Touching.{tops_more}
use Rattle.gate_shapes.proofs.contacts.tops_of.Goals as goal

pub loop-i-preserved : goal.loop-i-preserved
loop-i-preserved c =
    let zero : Rect = record { x1 = pos 0; y1 = pos 0; x2 = pos 0; y2 = pos 0 } in
    c.in_ok-push.ensures.items ∙ tops_more c.args.rects.now c.loop-i.i zero c.loop-i.tops.items (omega arith) c.loop-i.invariant
