use Rattle.std.proofs.Common.{refl}
use Rattle.touching_pieces.proofs.Links.{one_linked}
use Rattle.touching_pieces.proofs.pairs.link_two.Goals as goal

pub returns-then-touches : goal.returns-then-touches
returns-then-touches c = rw c.in_ok-push.ensures.items (one_linked c.args.one.now c.args.other.now c.args.out.now.items (c.if-touches.ensures.0 refl))
