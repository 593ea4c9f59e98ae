use Rattle.net_walk.proofs.Holding.{no_own, own_more}
use Rattle.net_walk.proofs.held.mark_own.Goals as goal

pub loop-r-init : goal.loop-r-init
loop-r-init c = no_own c.args.net_of.now c.args.at c.args.marks.now

pub loop-r-preserved : goal.loop-r-preserved
loop-r-preserved c = own_more c.args.net_of.now c.args.at c.loop-r.r c.args.marks.now c.loop-r.marks c.mark_at.new.marks c.loop-r.invariant c.mark_at.ensures
