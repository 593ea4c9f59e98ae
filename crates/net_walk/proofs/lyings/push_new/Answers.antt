use Rattle.std.proofs.Common.{refl}
use Rattle.net_walk.proofs.Ordering.{IsThis, known_link}
use Rattle.net_walk.proofs.lyings.push_new.Goals as goal
use Rattle.touching_pieces.proofs.Links.{added_one}

pub returns-then-is_last : goal.returns-then-is_last
returns-then-is_last c = known_link c.args.lying.now c.args.out.now.items (rw c.deref.ensures.value at (c.is_last.ensures c.if-is_last.true))

pub returns : goal.returns
returns c = rw c.in_ok-push.ensures.items (added_one (IsThis c.args.lying.now) c.args.out.now.items c.args.lying.now.one c.args.lying.now.other (refl, refl) (λ i j e. e))
