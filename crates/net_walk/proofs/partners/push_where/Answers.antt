use Rattle.net_walk.proofs.Holding.{one_last}
use Rattle.net_walk.proofs.Partnering.{where_pushed}
use Rattle.net_walk.proofs.partners.push_where.Goals as goal

pub returns-clause-kept : goal.returns-clause-kept
returns-clause-kept c = rw c.in_ok-push.ensures.items (where_pushed c.args.out.now.items c.args.other)

pub returns-clause-found : goal.returns-clause-found
returns-clause-found c = λ e. rw c.in_ok-push.ensures.items (one_last c.args.out.now.items c.args.other)
