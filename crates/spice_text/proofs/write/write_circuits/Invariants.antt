use Rattle.std.proofs.Common.{drop, map}
use Rattle.net_model.specs.Rows.{plain_circuit}
use Rattle.spice_text.specs.Written.{AreOneByOne, IsCircuitText, HasWritten}
use Rattle.spice_text.proofs.write.write_circuits.Given as goal

abbrev pub invariant-circuits : goal.invariant-circuits
invariant-circuits l = HasWritten (AreOneByOne (IsCircuitText (map plain_circuit l.circuits)) (map plain_circuit (drop l.i l.circuits))) (AreOneByOne (IsCircuitText (map plain_circuit l.circuits)) (map plain_circuit l.circuits)) l.initial.out.items l.out.items
