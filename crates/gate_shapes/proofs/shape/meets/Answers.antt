use Rattle.std.proofs.Common.{pos, length, arith}
use Rattle.geo_base.specs.declared.shapes.Rect.{Rect}
use Rattle.gate_shapes.proofs.Meeting.{met_at, miss_all, miss_next, miss_none, none_in, some_in}
use Rattle.gate_shapes.proofs.shape.meets.Goals as goal

abbrev nowhere : Rect
nowhere = record { x1 = pos 0; y1 = pos 0; x2 = pos 0; y2 = pos 0 }

pub loop-rect-init : goal.loop-rect-init
loop-rect-init c = miss_none c.rects-rect-items.result.now c.args.other.now

pub returns-then-not-is_empty : goal.returns-then-not-is_empty
returns-then-not-is_empty c =
    let near = c.in_ok-near.near in
    let some = some_in (length near.items) near.len c.is_empty.result near.ok.0 c.is_empty.ensures c.if-not-is_empty.true in
    record {
      yes = λ e. met_at c.args.set.now c.rects-rect-items.result.now c.args.other.now near.items c.loop-rect.rect-index nowhere c.rects-rect-items.ensures.list (omega arith) c.in_ok-near.ensures some;
      no = λ e. absurd (cc);
    }

pub loop-rect-preserved : goal.loop-rect-preserved
loop-rect-preserved c =
    let near = c.in_ok-near.near in
    let none = none_in (length near.items) near.len c.is_empty.result near.ok.0 c.is_empty.ensures c.if-not-is_empty.false in
    miss_next c.rects-rect-items.result.now c.args.other.now near.items c.loop-rect.rect-index nowhere (omega arith) c.in_ok-near.ensures none c.loop-rect.invariant

pub returns : goal.returns
returns c = record {
  yes = λ e. absurd (cc);
  no = λ e. miss_all c.args.set.now c.rects-rect-items.result.now c.args.other.now c.loop-rect.rect-index c.rects-rect-items.ensures.list (omega arith) c.loop-rect.invariant;
}
