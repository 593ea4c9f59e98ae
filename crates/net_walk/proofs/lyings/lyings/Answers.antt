use Rattle.std.proofs.Common.{length, arith}
use Rattle.link_classes.proofs.Trees.{link_at}
use Rattle.net_walk.proofs.Ordering.{lain_all, lain_more, none_lain}
use Rattle.net_walk.proofs.Spanning.{no_link}
use Rattle.net_walk.proofs.lyings.lyings.Goals as goal

pub loop-pair-init : goal.loop-pair-init
loop-pair-init c = rw c.new-out.ensures.items (none_lain c.args.pairs.now)

pub lying_pair-requires-clause-one : goal.lying_pair-requires-clause-one
lying_pair-requires-clause-one c = (link_at (length c.args.elements.now) c.args.pairs.now c.loop-pair.pair-index no_link c.requires.pairs (omega arith)).0

pub lying_pair-requires-clause-other : goal.lying_pair-requires-clause-other
lying_pair-requires-clause-other c = (link_at (length c.args.elements.now) c.args.pairs.now c.loop-pair.pair-index no_link c.requires.pairs (omega arith)).1

pub loop-pair-preserved : goal.loop-pair-preserved
loop-pair-preserved c = rw c.in_ok-push.ensures.items (lain_more c.args.pairs.now c.loop-pair.pair-index c.loop-pair.out.items c.lying_pair.result (omega arith) c.loop-pair.invariant c.lying_pair.ensures)

pub returns : goal.returns
returns c = lain_all c.args.pairs.now c.loop-pair.pair-index c.loop-pair.out.items (omega arith) c.loop-pair.invariant
