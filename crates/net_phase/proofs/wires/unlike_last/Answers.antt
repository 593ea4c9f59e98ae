use Rattle.std.proofs.Common.{arith}
use Rattle.net_phase.proofs.Wiring.{once_all, once_more}
use Rattle.net_phase.proofs.wires.unlike_last.Goals as goal

pub loop-line-init : goal.loop-line-init
loop-line-init c = rw c.new-once.ensures.items (λ x. ((λ h. h), (λ h. h)))

pub loop-line-preserved : goal.loop-line-preserved
loop-line-preserved c = once_more c.args.lines.now c.loop-line.once.items c.push_new.new.lines.items c.loop-line.line-index (0, 0) (omega arith) c.loop-line.invariant c.in_ok-push_new.ensures

pub returns : goal.returns
returns c = once_all c.args.lines.now c.loop-line.once.items c.loop-line.line-index (omega arith) c.loop-line.invariant
