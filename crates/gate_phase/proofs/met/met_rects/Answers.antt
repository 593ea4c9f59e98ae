use Rattle.std.proofs.Common.{subst, List}
use Rattle.std.proofs.lemmas.List.{take_all}
use Rattle.geo_base.specs.declared.shapes.Rect.{Rect}
use Rattle.cell_context.proofs.Collecting.{no_rect}
use Rattle.gate_phase.specs.Indexes.{AreMetOf}
use Rattle.gate_phase.proofs.Keeping.{chosen_more, complete_more}
use Rattle.gate_phase.proofs.met.met_rects.Goals as goal

pub loop-rect-preserved : goal.loop-rect-preserved
loop-rect-preserved c =
    let rects = c.args.rects.now in let i = c.loop-rect.rect-index in let e = c.in_ok-push_met.ensures in
    let old = c.loop-rect.out.items in let new = c.push_met.new.out.items in
    record {
      listed = λ r l. chosen_more rects old new i no_rect r c.loop-rect-test.true e.listed c.loop-rect.invariant.listed l;
      complete = λ q. complete_more rects old new c.args.window.now i no_rect q c.loop-rect-test.true (e.stay q) (e.here q) (c.loop-rect.invariant.complete q);
    }

pub returns : goal.returns
returns c =
    subst (λ (l : List Rect). AreMetOf l c.args.window.now c.loop-rect.out.items) (take_all c.loop-rect.rect-index c.args.rects.now c.loop-rect-test.false) c.loop-rect.invariant
