use Rattle.std.proofs.Common.{pos, sym, subst}
use Rattle.geo_base.specs.declared.shapes.Rect.{Rect}
use Rattle.geo_base.specs.Rects.{IsInside}
use Rattle.tile_index.specs.declared.entries.Entry.{Entry}
use Rattle.tile_index.proofs.Walks.{holds_more}
use Rattle.tile_index.proofs.tree.hull_of.Goals as goal

pub loop-entry-preserved : goal.loop-entry-preserved
loop-entry-preserved c = λ k e below there.
    let d : Entry = record { rect = record { x1 = pos 0; y1 = pos 0; x2 = pos 0; y2 = pos 0 }; position = 0 } in
    subst (λ (r : Rect). IsInside e.rect r) (sym c.bounding_box-hull.ensures)
    (holds_more c.args.entries.now c.loop-entry.entry-index d c.loop-entry.hull c.loop-entry-test.true c.loop-entry.invariant k e below there)
