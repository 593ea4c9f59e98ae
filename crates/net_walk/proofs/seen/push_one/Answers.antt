use Rattle.net_walk.proofs.Insides.{near_inside}
use Rattle.net_walk.proofs.Seeing.{one_seen}
use Rattle.net_walk.proofs.seen.push_one.Goals as goal

pub rect-requires-clause-near_rect : goal.rect-requires-clause-near_rect
rect-requires-clause-near_rect c = near_inside c.args.piece.now.rect c.args.inner.now c.requires.inside c.requires.near

pub returns : goal.returns
returns c = rw c.in_ok-push.ensures.items (one_seen c.args.motion.now c.args.piece.now c.args.conductor c.args.at c.rect.result c.args.out.now.items c.rect.ensures.in_order c.rect.ensures.squares)
