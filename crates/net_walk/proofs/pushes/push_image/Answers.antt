use Rattle.net_walk.proofs.Adding.{image_added}
use Rattle.net_walk.proofs.Insides.{near_inside}
use Rattle.net_walk.proofs.pushes.push_image.Goals as goal

pub rect-requires-clause-near_rect : goal.rect-requires-clause-near_rect
rect-requires-clause-near_rect c = near_inside c.args.piece.now.rect c.args.inner.now c.requires.inside c.requires.near

pub returns : goal.returns
returns c =
    rw c.in_ok-push.ensures.items
    (image_added c.args.window.now c.args.inner.now c.rect.result c.args.motion.now c.args.piece.now c.args.net_of.now c.args.at c.args.out.now.items c.requires.listed.0 c.rect.ensures.in_order c.requires.inside c.requires.into c.rect.ensures.squares)
