use Rattle.net_walk.proofs.Holding.{one_mark}
use Rattle.net_walk.proofs.held.mark_at.Goals as goal

pub returns : goal.returns
returns c = one_mark c.args.net_of.now c.args.item c.args.marks.now c.mark.new.marks c.mark.ensures.count c.mark.ensures.marked
