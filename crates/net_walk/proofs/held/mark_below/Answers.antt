use Rattle.std.proofs.Common.{get_or, refl, arith, rules}
use Rattle.net_walk.proofs.Holding.{below_all, below_more, no_below}
use Rattle.net_walk.proofs.held.mark_below.Goals as goal

pub loop-b-init : goal.loop-b-init
loop-b-init c = no_below c.args.below.now c.args.net_of.now c.args.at c.args.marks.now

pub overflow_add-at : goal.overflow_add-at
overflow_add-at c =
    let h = c.requires.items (get_or c.args.below.now c.loop-b.b-index 0) (c.loop-b.b-index, omega arith, refl) in
    search rules

pub mark_at-requires-clause-item : goal.mark_at-requires-clause-item
mark_at-requires-clause-item c = c.requires.items (get_or c.args.below.now c.loop-b.b-index 0) (c.loop-b.b-index, omega arith, refl)

pub loop-b-preserved : goal.loop-b-preserved
loop-b-preserved c = below_more c.args.below.now c.args.net_of.now c.args.at c.loop-b.b-index c.args.marks.now c.loop-b.marks c.mark_at.new.marks c.loop-b.invariant c.mark_at.ensures

pub returns : goal.returns
returns c = below_all c.args.below.now c.args.net_of.now c.args.at c.loop-b.b-index c.args.marks.now c.loop-b.marks (omega arith) c.loop-b.invariant
