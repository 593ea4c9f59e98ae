use Rattle.std.proofs.Common.{◌++◌, List, pos, sym, subst, ◌∙◌, ap}
use Rattle.std.specs.List.{All}
use Rattle.std.proofs.lemmas.List.Elements.{All-append}
use Rattle.geo_base.specs.Rects.{IsRect}
use Rattle.geo_base.specs.declared.shapes.Rect.{Rect}
use Rattle.cell_context.proofs.Gathering.{grow, pieces_rects}
use Rattle.cell_context.proofs.flats.collect_in.Goals as goal

pub loop-rect-preserved : goal.loop-rect-preserved
loop-rect-preserved c =
    let z : Rect = record { x1 = pos 0; y1 = pos 0; x2 = pos 0; y2 = pos 0 } in
    let e = c.in_ok-extend_from_slice.ensures.items ∙ ap (λ (l : List Rect). c.loop-rect.out.items ++ l) c.deref.ensures.value in
    record {
      rects = subst (All IsRect) (sym e) (All-append IsRect c.loop-rect.out.items c.in_ok-more.more.items c.loop-rect.invariant.rects (pieces_rects _ c.in_ok-more.more.items c.in_ok-more.ensures.pieces));
      exact = grow c.args.design.now c.args.cell c.args.key c.loop-rect.out.items c.in_ok-more.more.items c.extend_from_slice.new.self.items c.rects-rect-items.result.now c.loop-rect.rect-index z c.sound.ensures c.loop-rect-test.true e c.loop-rect.invariant.exact c.in_ok-more.ensures.exact;
    }
