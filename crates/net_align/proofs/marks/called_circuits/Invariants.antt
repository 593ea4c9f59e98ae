use Rattle.std.proofs.Common.{◌≡◌, take, map, replicate, length, false}
use Rattle.net_model.specs.Rows.{plain_circuit}
use Rattle.net_align.specs.Marks.{marked_by}
use Rattle.net_align.proofs.marks.called_circuits.Given as goal

abbrev pub invariant-loop-circuit : goal.invariant-loop-circuit
invariant-loop-circuit l = l.marks.items ≡ marked_by (map plain_circuit (take l.circuit-index l.circuit-items)) (replicate (length l.netlist.circuits.items) false)
