use Rattle.circuit_phase.proofs.Series.{AreNumberedTo}
use Rattle.circuit_phase.proofs.numbering.number_nets.Given as goal

abbrev pub invariant-loop-i : goal.invariant-loop-i
invariant-loop-i l = AreNumberedTo l.fn.numbering.count l.fn.numbering.nets l.numbering.count l.numbering.nets l.nets l.i l.numbers.items
