use Rattle.net_marks.proofs.Terminals.{AreMarkedTo}
use Rattle.net_marks.proofs.marks.mark_gates.Given as goal

abbrev pub invariant-loop-gate : goal.invariant-loop-gate
invariant-loop-gate l = AreMarkedTo l.fn.marks l.gates l.gate-index l.marks
