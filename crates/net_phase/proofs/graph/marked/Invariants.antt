use Rattle.net_phase.proofs.Graphing.{AreNumbers}
use Rattle.net_phase.proofs.graph.marked.Given as goal

abbrev pub invariant-loop-number : goal.invariant-loop-number
invariant-loop-number l = AreNumbers l.marks l.number l.numbers.items
