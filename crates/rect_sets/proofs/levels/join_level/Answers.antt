use Rattle.rect_sets.proofs.Ranging.{joined_across}
use Rattle.rect_sets.proofs.levels.join_level.Goals as goal

pub returns : goal.returns
returns c =
    let below = c.sort_ranges.new.rects.items in
    let above = c.sort_ranges-2.new.rects.items in
    let grown = rw (c.deref.ensures.value, c.deref-2.ensures.value) at c.in_ok-out.ensures in
    let added = rw (c.deref-3.ensures.value, c.deref-4.ensures.value) at c.in_ok-push_others.ensures in
    joined_across c.args.below.items c.args.above.items below above c.in_ok-out.out.items c.push_others.new.out.items c.sort_ranges.ensures.permutation c.sort_ranges-2.ensures.permutation grown added
