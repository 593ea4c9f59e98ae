use Rattle.std.proofs.Common.{refl}
use Rattle.std.proofs.lemmas.Bool.{false≢true}
use Rattle.geo_base.specs.Rects.{common}
use Rattle.net_walk.proofs.Insides.{part_in, no_part, common_inside, near_inside}
use Rattle.net_walk.proofs.walk.part_in.Goals as goal

pub rect-requires-clause-near_rect : goal.rect-requires-clause-near_rect
rect-requires-clause-near_rect c =
    let span = c.rect-span.result in
    let window = c.args.window.now in
    let is = rw c.common-part.ensures at c.if-is_rect.ensures.rect.0 refl in
    rw c.common-part.ensures (near_inside (common span window) window (common_inside span window is) c.requires.near_window)

pub returns-then-is_rect-clause-some : goal.returns-then-is_rect-clause-some
returns-then-is_rect-clause-some c =
    let again = rw c.common-part.ensures at c.rect.ensures.squares in
    part_in c.args.motion.now c.inverse.result c.args.hull.now c.rect-span.result c.args.window.now c.rect.result c.inverse.ensures.back.squares c.rect-span.ensures.squares again c.rect.ensures.in_order c.requires.near

pub returns-clause-none : goal.returns-clause-none
returns-clause-none c =
    let not = rw c.common-part.ensures at c.if-is_rect.ensures.rect.1 in
    no_part c.args.motion.now c.args.hull.now c.rect-span.result c.args.window.now c.rect-span.ensures.squares (λ h. false≢true (not h))
