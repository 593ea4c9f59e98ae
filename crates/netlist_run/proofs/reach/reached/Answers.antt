use Rattle.call_order.specs.Order.{lists}
use Rattle.netlist_run.proofs.Walking.{ends, none_left, one_less, one_step}
use Rattle.netlist_run.proofs.reach.reached.Goals as goal

pub steps-smaller : goal.steps-smaller
steps-smaller c =
    one_less (lists c.args.calls.now) c.in-Some.k c.pop.result c.steps.marks.items c.steps.work.items c.pop.new.self.items (record { marks = c.follow.new.marks.items; work = c.follow.new.work.items })
    c.pop.ensures.items c.in-Some.is c.in_ok-follow.ensures

pub steps-preserved : goal.steps-preserved
steps-preserved c =
    one_step (lists c.args.calls.now) c.args.top c.in-Some.k c.pop.result c.steps.marks.items c.steps.work.items c.pop.new.self.items (record { marks = c.follow.new.marks.items; work = c.follow.new.work.items })
    c.steps.invariant c.pop.ensures.items c.in-Some.is c.in_ok-follow.ensures

pub returns : goal.returns
returns c =
    ends (lists c.args.calls.now) c.args.top (record { marks = c.steps.marks.items; work = c.steps.work.items }) c.steps.invariant
    (none_left c.pop.result c.steps.work.items c.pop.new.self.items _ _ c.pop.ensures.items c.pop.ensures.rest c.pop.ensures.cases c.in_default.is)
