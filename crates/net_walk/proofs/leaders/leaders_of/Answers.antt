use Rattle.std.proofs.Common.{arith, subst}
use Rattle.net_walk.proofs.Leading.{leaders_more, no_leaders}
use Rattle.net_walk.proofs.leaders.leaders_of.Goals as goal
use Rattle.net_walk.specs.Leaders.{AreLeaders}

pub loop-k-init : goal.loop-k-init
loop-k-init c = rw c.new-leaders.ensures.items (no_leaders c.args.elements.now)

pub loop-k-preserved : goal.loop-k-preserved
loop-k-preserved c = rw c.in_ok-push.ensures.items (leaders_more c.args.elements.now c.loop-k.k c.loop-k.leaders.items c.leader_of-leader.result c.loop-k.invariant (rw c.deref.ensures.value at c.leader_of-leader.ensures))

pub returns : goal.returns
returns c = subst (λ n. AreLeaders c.args.elements.now n c.loop-k.leaders.items) (omega arith) c.loop-k.invariant
