use Rattle.std.proofs.Common.{arith}
use Rattle.net_walk.proofs.Ordering.{none_once, no_lying, once_all, once_more}
use Rattle.net_walk.proofs.lyings.unlike_last.Goals as goal

pub loop-lying-init : goal.loop-lying-init
loop-lying-init c = rw c.new-out.ensures.items (none_once c.args.lyings.now)

pub loop-lying-preserved : goal.loop-lying-preserved
loop-lying-preserved c = once_more c.args.lyings.now c.loop-lying.lying-index no_lying c.loop-lying.out.items c.push_new.new.out.items (omega arith) c.loop-lying.invariant c.in_ok-push_new.ensures

pub returns : goal.returns
returns c = once_all c.args.lyings.now c.loop-lying.lying-index c.loop-lying.out.items (omega arith) c.loop-lying.invariant
