use Rattle.cell_context.proofs.Collecting.{no_rect}
use Rattle.zone_phase.proofs.Joining.{rect_more}
use Rattle.zone_phase.proofs.beside.push_onto.Goals as goal

pub loop-rect-preserved : goal.loop-rect-preserved
loop-rect-preserved c = record {
  rects = c.in_ok-push_pulled.ensures.rects;
  exact = rect_more c.args.place.now c.args.hull.now c.args.rects.now c.loop-rect.rect-index no_rect c.args.out.now.items c.loop-rect.out.items c.push_pulled.new.out.items c.loop-rect-test.true c.loop-rect.invariant.exact c.in_ok-push_pulled.ensures.exact;
}
