use Rattle.std.proofs.Common.{refl}
use Rattle.std.proofs.lemmas.Bool.{false≢true}
use Rattle.net_walk.proofs.Adding.{clipped_some, clipped_none}
use Rattle.net_walk.proofs.pushes.push_clipped.Goals as goal

pub returns-then-is_rect : goal.returns-then-is_rect
returns-then-is_rect c =
    let is = rw c.common-part.ensures at c.if-is_rect.ensures.rect.0 refl in
    rw (c.in_ok-push.ensures.items, c.common-part.ensures) (clipped_some c.args.window.now c.args.rect.now c.args.net c.args.out.now.items is)

pub returns : goal.returns
returns c =
    let not = rw c.common-part.ensures at c.if-is_rect.ensures.rect.1 in
    clipped_none c.args.window.now c.args.rect.now c.args.net c.args.out.now.items (λ h. false≢true (not h))
