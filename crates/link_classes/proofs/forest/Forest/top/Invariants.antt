use Rattle.std.proofs.Common.{◌-◌, length, get_or}
use Rattle.link_classes.proofs.forest.Forest.top.Given as goal
use Rattle.link_classes.specs.Forest.{IsOnWay}

abbrev pub invariant-loop-x : goal.invariant-loop-x
invariant-loop-x l = IsOnWay l.fn.self.parent.items l.self.parent.items l.self.rank.items l.start l.x

abbrev pub decreases-loop-x : goal.decreases-loop-x
decreases-loop-x l = length l.self.parent.items - get_or l.self.rank.items l.x 0
