use Rattle.std.proofs.Common.{◌++◌, [], ◌∷◌, ◌∙◌, ap, pos, arith}
use Rattle.geo_base.specs.declared.shapes.Rect.{Rect}
use Rattle.gate_shapes.proofs.Rings.{grown_more}
use Rattle.gate_shapes.proofs.border.grown.Goals as goal

pub loop-rect-preserved : goal.loop-rect-preserved
loop-rect-preserved c =
    let zero : Rect = record { x1 = pos 0; y1 = pos 0; x2 = pos 0; y2 = pos 0 } in
    let more = grown_more c.args.rects.now c.loop-rect.rect-index zero c.loop-rect.out.items (omega arith) c.loop-rect.invariant in
    c.in_ok-push.ensures.items ∙ ap (λ (r : Rect). c.loop-rect.out.items ++ r ∷ []) c.grow.ensures ∙ more
