use Rattle.rect_sets.proofs.Ordering.{order_permuted}
use Rattle.rect_sets.proofs.order.in_order.Goals as goal

pub returns : goal.returns
returns c =
    let h = rw c.deref.ensures.value at c.in_ok-out.ensures in
    order_permuted c.args.rects.items c.sort_rects.new.rects.items c.in_ok-out.out.items c.sort_rects.ensures.permutation h
