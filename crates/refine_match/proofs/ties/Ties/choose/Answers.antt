use Rattle.std.proofs.Common.{◌∙◌, sym, arith, true≢false}
use Rattle.refine_match.proofs.Entered.{back_again, least_tied, no_entries, none_tied, queue_same, wrong_gone}
use Rattle.refine_match.proofs.ties.Ties.choose.Goals as goal

pub loop-tie-preserved : goal.loop-tie-preserved
loop-tie-preserved c =
    wrong_gone c.loop-tie.self c.args.graph.now c.args.classes.now c.pop.new.self c.in-Some.field-0 c.loop-tie.invariant (λ r. true≢false (sym (c.is_right.ensures.1 r) ∙ c.if-is_right.false))
    c.in-Some.ensures.permutation (c.in-Some.ensures.heap_order c.loop-tie.invariant.ordered).0

pub loop-tie-smaller : goal.loop-tie-smaller
loop-tie-smaller c = let less = c.in-Some.ensures.len in omega arith

pub returns-then-is_right-clause-ties : goal.returns-then-is_right-clause-ties
returns-then-is_right-clause-ties c =
    back_again c.loop-tie.self c.args.graph.now c.args.classes.now c.pop.new.self c.push.new.self c.in-Some.field-0 c.loop-tie.invariant c.in-Some.ensures.permutation c.in_ok-push.ensures.permutation
    (c.in_ok-push.ensures.heap_order (c.in-Some.ensures.heap_order c.loop-tie.invariant.ordered).0)

pub returns-then-is_right-clause-least : goal.returns-then-is_right-clause-least
returns-then-is_right-clause-least c =
    least_tied c.loop-tie.self c.args.graph.now c.args.classes.now c.in-Some.field-0 c.requires.partition c.loop-tie.invariant (c.in-Some.ensures.heap_order c.loop-tie.invariant.ordered).1 (c.is_right.ensures.0 c.if-is_right.true)

pub returns-clause-ties : goal.returns-clause-ties
returns-clause-ties c = queue_same c.loop-tie.self c.args.graph.now c.args.classes.now c.pop.new.self c.loop-tie.invariant c.in_default.ensures.unchanged.0

pub returns-clause-least : goal.returns-clause-least
returns-clause-least c = none_tied c.loop-tie.self c.args.graph.now c.args.classes.now c.requires.partition c.loop-tie.invariant (no_entries c.loop-tie.self.queue c.in_default.ensures.none)
