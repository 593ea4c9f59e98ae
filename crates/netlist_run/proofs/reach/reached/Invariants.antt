use Rattle.call_order.specs.Order.{lists}
use Rattle.netlist_run.proofs.Marking.{left}
use Rattle.netlist_run.proofs.Walking.{Walks}
use Rattle.netlist_run.proofs.reach.reached.Given as goal

abbrev pub invariant-steps : goal.invariant-steps
invariant-steps l = Walks (lists l.calls) l.top (record { marks = l.marks.items; work = l.work.items })

abbrev pub decreases-steps : goal.decreases-steps
decreases-steps l = left (record { marks = l.marks.items; work = l.work.items })
