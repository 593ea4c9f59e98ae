use Rattle.std.proofs.Common.{drop, map}
use Rattle.net_model.specs.Rows.{plain_circuit}
use Rattle.spice_text.specs.Written.{AreOneByOne, HasWritten}
use Rattle.view_netlist.specs.Circuits.{IsNumberText}
use Rattle.view_netlist.proofs.circuits.push_circuits.Given as goal

abbrev pub invariant-circuits : goal.invariant-circuits
invariant-circuits l = HasWritten (AreOneByOne (IsNumberText l.names l.drawings (map plain_circuit l.circuits)) (drop l.i l.order)) (AreOneByOne (IsNumberText l.names l.drawings (map plain_circuit l.circuits)) l.order) l.initial.out.items l.out.items
