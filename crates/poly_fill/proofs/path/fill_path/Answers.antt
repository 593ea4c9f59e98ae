use Rattle.std.proofs.Common.{◌∙◌}
use Rattle.std.proofs.lemmas.List.Elements.{All-same}
use Rattle.geo_base.specs.Near.{IsLongPoint}
use Rattle.poly_fill.specs.Fills.{distinct}
use Rattle.poly_fill.proofs.Widened.{all_distinct}
use Rattle.poly_fill.proofs.path.fill_path.Goals as goal

pub segment_rects-requires-clause-points : goal.segment_rects-requires-clause-points
segment_rects-requires-clause-points c =
    All-same IsLongPoint c.deref.result.now (distinct c.args.points.now) (c.deref.ensures.value ∙ c.in_ok-corners.ensures)
    (all_distinct IsLongPoint c.args.points.now c.requires.points)
