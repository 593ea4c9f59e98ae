use Rattle.std.proofs.Common.{arith, pos, []}
use Rattle.geo_base.specs.declared.shapes.Rect.{Rect}
use Rattle.rect_sets.specs.Moves.{meeting}
use Rattle.rect_sets.proofs.Dividing.{loop_more, loop_all}
use Rattle.rect_sets.proofs.Moving.{meeting_append}
use Rattle.rect_sets.proofs.moves.meeting.Goals as goal

pub loop-rect-preserved : goal.loop-rect-preserved
loop-rect-preserved c =
    let zero : Rect = record { x1 = pos 0; y1 = pos 0; x2 = pos 0; y2 = pos 0 } in
    rw c.in_ok-push_meeting.ensures (loop_more (meeting c.args.w.now) (meeting_append c.args.w.now) c.args.rects.now c.loop-rect.rect-index zero [] c.loop-rect.out.items (omega arith) c.loop-rect.invariant)

pub returns : goal.returns
returns c = loop_all (meeting c.args.w.now) c.args.rects.now c.loop-rect.rect-index [] c.loop-rect.out.items (omega arith) c.loop-rect.invariant
