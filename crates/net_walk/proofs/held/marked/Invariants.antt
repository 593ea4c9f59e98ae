use Rattle.net_walk.proofs.Holding.{AreFirstMarked}
use Rattle.net_walk.proofs.held.marked.Given as goal

abbrev pub invariant-loop-number : goal.invariant-loop-number
invariant-loop-number l = AreFirstMarked l.marks l.number l.numbers.items
