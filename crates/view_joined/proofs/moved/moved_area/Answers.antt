use Rattle.std.proofs.Common.{pos, subst, sym}
use Rattle.geo_base.specs.Near.{IsNearRect}
use Rattle.geo_base.specs.declared.shapes.Rect.{Rect}
use Rattle.view_joined.proofs.Small.{near_placed}
use Rattle.view_joined.proofs.moved.moved_area.Goals as goal

pub placed_rect-placed-requires-clause-rect : goal.placed_rect-placed-requires-clause-rect
placed_rect-placed-requires-clause-rect c =
    let zero : Rect = record { x1 = pos 0; y1 = pos 0; x2 = pos 0; y2 = pos 0 } in
    c.requires.rects c.rects.k zero c.rects-test.true

pub moved_rect-moved-requires-clause-rect : goal.moved_rect-moved-requires-clause-rect
moved_rect-moved-requires-clause-rect c =
    let zero : Rect = record { x1 = pos 0; y1 = pos 0; x2 = pos 0; y2 = pos 0 } in
    subst IsNearRect (sym c.placed_rect-placed.ensures) (near_placed c.args.at _ c.requires.at (c.requires.rects c.rects.k zero c.rects-test.true))
