use Rattle.std.proofs.Common.{arith, subst}
use Rattle.net_walk.proofs.Leading.{followers_more, no_followers}
use Rattle.net_walk.proofs.leaders.push_followers.Goals as goal
use Rattle.net_walk.specs.Leaders.{IsFollower}
use Rattle.touching_pieces.specs.Pairs.{AddsLinks}

pub loop-k-init : goal.loop-k-init
loop-k-init c = no_followers c.args.leaders.now c.args.out.now.items

pub loop-k-preserved : goal.loop-k-preserved
loop-k-preserved c = followers_more c.args.leaders.now c.loop-k.k c.args.out.now.items c.loop-k.out.items c.push_follower.new.out.items c.loop-k.invariant c.in_ok-push_follower.ensures

pub returns : goal.returns
returns c = subst (λ n. AddsLinks (IsFollower c.args.leaders.now n) c.args.out.now.items c.loop-k.out.items) (omega arith) c.loop-k.invariant
