use Rattle.net_phase.proofs.Graphing.{AreMarked}
use Rattle.net_phase.proofs.graph.mark.Given as goal

abbrev pub invariant-loop-input : goal.invariant-loop-input
invariant-loop-input l = AreMarked l.fn.marks l.job l.input-index l.inputs l.marks
