use Rattle.std.proofs.Common.{arith, pos, []}
use Rattle.geo_base.specs.declared.shapes.Rect.{Rect}
use Rattle.rect_sets.specs.Moves.{shifted}
use Rattle.rect_sets.proofs.Dividing.{loop_more, loop_all}
use Rattle.rect_sets.proofs.Moving.{shifted_append}
use Rattle.rect_sets.proofs.moves.shifted.Goals as goal

pub loop-rect-preserved : goal.loop-rect-preserved
loop-rect-preserved c =
    let zero : Rect = record { x1 = pos 0; y1 = pos 0; x2 = pos 0; y2 = pos 0 } in
    let f = shifted c.args.m.now.dx c.args.m.now.dy in
    rw (c.in_ok-push.ensures.items, c.shift.ensures) (loop_more f (shifted_append c.args.m.now.dx c.args.m.now.dy) c.args.rects.now c.loop-rect.rect-index zero [] c.loop-rect.out.items (omega arith) c.loop-rect.invariant)

pub returns : goal.returns
returns c = loop_all (shifted c.args.m.now.dx c.args.m.now.dy) c.args.rects.now c.loop-rect.rect-index [] c.loop-rect.out.items (omega arith) c.loop-rect.invariant
