use Rattle.std.proofs.Common.{arith}
use Rattle.rect_sets.proofs.Stacking.{joined_last, joined_next}
use Rattle.rect_sets.proofs.divide.join_stripe.Goals as goal

pub returns-then-i-len : goal.returns-then-i-len
returns-then-i-len c = λ set found joined.
    rw (c.in_ok-next.ensures.done, c.in_ok-next.ensures.rest)
    (joined_last c.args.i c.args.lines.now.axis c.args.lines.now.at.items set c.args.found.now c.args.done.now.items c.args.rest.items (omega arith) found joined)

pub returns : goal.returns
returns c = λ set found joined.
    let w = rw c.line.ensures at c.in_ok-all.ensures in
    rw (c.in_ok-next-2.ensures.done, c.in_ok-next-2.ensures.rest, c.deref.ensures.value)
    (joined_next c.args.i c.args.lines.now.axis c.args.lines.now.at.items set c.args.found.now c.args.done.now.items c.args.rest.items c.in_ok-all.all.items c.requires.lines (omega arith) found joined w)
