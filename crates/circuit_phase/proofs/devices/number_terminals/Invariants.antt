use Rattle.circuit_phase.proofs.Terminals.{AreNumberedIn}
use Rattle.circuit_phase.proofs.devices.number_terminals.Given as goal

abbrev pub invariant-loop-i : goal.invariant-loop-i
invariant-loop-i l = AreNumberedIn l.fn.numbering.count l.fn.numbering.nets l.numbering.count l.numbering.nets l.nets l.i l.on
