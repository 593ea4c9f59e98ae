use Rattle.std.proofs.Common.{refl}
use Rattle.net_walk.proofs.Contacting.{across_back, across_there}
use Rattle.net_walk.proofs.contacts.push_across.Goals as goal

pub returns-then-count-link : goal.returns-then-count-link
returns-then-count-link c = rw c.in_ok-push.ensures.items (across_there c.args.link.now c.args.count c.args.out.now.items c.args.link.now.one c.args.link.now.other refl refl c.if-link-count.true c.if-count-link.true)

pub returns-then-count-link-2 : goal.returns-then-count-link-2
returns-then-count-link-2 c =
    rw c.in_ok-push-2.ensures.items (across_back c.args.link.now c.args.count c.args.out.now.items c.args.link.now.other c.args.link.now.one refl refl c.if-link-count-2.true c.if-count-link-2.true)
