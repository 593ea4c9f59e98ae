use Rattle.std.proofs.Common.{arith, pos, get_or}
use Rattle.geo_base.specs.declared.shapes.Rect.{Rect}
use Rattle.rect_sets.specs.Orders.{Joins}
use Rattle.rect_sets.proofs.Ordering.{order_none, order_room, order_more, order_all}
use Rattle.rect_sets.proofs.order.join_all.Goals as goal

pub loop-rect-init : goal.loop-rect-init
loop-rect-init c = rw c.in_ok-out.ensures.items (order_none c.args.sorted.now)

pub join-requires : goal.join-requires
join-requires c =
    let zero : Rect = record { x1 = pos 0; y1 = pos 0; x2 = pos 0; y2 = pos 0 } in
    order_room c.args.sorted.now c.loop-rect.rect-index zero c.loop-rect.out.items (omega arith) c.loop-rect.invariant

pub loop-rect-preserved : goal.loop-rect-preserved
loop-rect-preserved c =
    let zero : Rect = record { x1 = pos 0; y1 = pos 0; x2 = pos 0; y2 = pos 0 } in
    let joined : Joins c.loop-rect.out.items c.join.new.out.items (get_or c.args.sorted.now c.loop-rect.rect-index zero) = c.in_ok-join.ensures in
    order_more c.args.sorted.now c.loop-rect.rect-index zero c.loop-rect.out.items c.join.new.out.items c.requires (omega arith) c.loop-rect.invariant joined

pub returns : goal.returns
returns c = order_all c.args.sorted.now c.loop-rect.rect-index c.loop-rect.out.items (omega arith) c.loop-rect.invariant
