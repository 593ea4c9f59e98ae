-- One rectangle more.
use Rattle.std.proofs.Common.{pos}
use Rattle.std.proofs.lemmas.List.{take_more}
use Rattle.geo_base.specs.declared.shapes.Rect.{Rect}
use Rattle.gds_shapes.specs.Stream.{boundary}
use Rattle.gds_shapes.proofs.More.{texts_push}
use Rattle.gds_shapes.proofs.shapes.write_layer.Goals as goal

abbrev none : Rect
none = record { x1 = pos 0; y1 = pos 0; x2 = pos 0; y2 = pos 0 }

pub loop-rect-preserved : goal.loop-rect-preserved
loop-rect-preserved c =
    let more = take_more c.args.rects.now c.loop-rect.rect-index none c.loop-rect-test.true in
    texts_push (λ r. boundary c.args.key r) _ _ _ _ _ _ more c.loop-rect.invariant c.in_ok-write_boundary.ensures
