use Rattle.net_walk.proofs.leaders.leaders_of.Given as goal
use Rattle.net_walk.specs.Leaders.{AreLeaders}

abbrev pub invariant-loop-k : goal.invariant-loop-k
invariant-loop-k l = AreLeaders l.elements l.k l.leaders.items
