use Rattle.std.proofs.Common.{◌∙◌, ap}
use Rattle.geo_base.specs.declared.shapes.Rect.{Rect}
use Rattle.gds_shapes.specs.Stream.{outline}
use Rattle.gds_shapes.proofs.Bodies.{passed_rect}
use Rattle.gds_shapes.proofs.shapes.outline.Goals as goal

pub returns : goal.returns
returns c =
    c.corners.ensures ∙ ap (λ (r : Rect). outline r)
    (passed_rect c.args.rect c.long-x1.result c.long-y1.result c.long-x2.result c.long-y2.result c.requires c.long-x1.ensures c.long-y1.ensures c.long-x2.ensures c.long-y2.ensures)
