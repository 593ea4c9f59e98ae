use Rattle.std.proofs.Common.{arith, pos}
use Rattle.geo_base.specs.declared.shapes.Rect.{Rect}
use Rattle.rect_sets.specs.Divided.{kept, cut_off}
use Rattle.rect_sets.proofs.Dividing.{loop_more, loop_all, kept_append, cut_append}
use Rattle.rect_sets.proofs.parts.sort_out.Goals as goal

pub loop-rect-preserved : goal.loop-rect-preserved
loop-rect-preserved c =
    let zero : Rect = record { x1 = pos 0; y1 = pos 0; x2 = pos 0; y2 = pos 0 } in
    record {
      done = rw c.in_ok-push_kept.ensures (loop_more (kept c.args.cut.now) (kept_append c.args.cut.now) c.args.rects.now c.loop-rect.rect-index zero c.args.done.now.items c.loop-rect.done.items (omega arith) c.loop-rect.invariant.done);
      rest = rw c.in_ok-push_cut_off.ensures (loop_more (cut_off c.args.cut.now) (cut_append c.args.cut.now) c.args.rects.now c.loop-rect.rect-index zero c.args.rest.now.items c.loop-rect.rest.items (omega arith) c.loop-rect.invariant.rest);
    }

pub returns-clause-done : goal.returns-clause-done
returns-clause-done c = loop_all (kept c.args.cut.now) c.args.rects.now c.loop-rect.rect-index c.args.done.now.items c.loop-rect.done.items (omega arith) c.loop-rect.invariant.done

pub returns-clause-rest : goal.returns-clause-rest
returns-clause-rest c = loop_all (cut_off c.args.cut.now) c.args.rects.now c.loop-rect.rect-index c.args.rest.now.items c.loop-rect.rest.items (omega arith) c.loop-rect.invariant.rest
