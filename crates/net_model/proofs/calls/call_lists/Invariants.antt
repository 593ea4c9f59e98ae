use Rattle.std.proofs.Common.{◌≡◌, map, take}
use Rattle.call_order.specs.Order.{lists}
use Rattle.net_model.specs.Faults.{called_by}
use Rattle.net_model.specs.Rows.{plain_circuit}
use Rattle.net_model.proofs.calls.call_lists.Given as goal

abbrev pub invariant-loop-circuit : goal.invariant-loop-circuit
invariant-loop-circuit l = lists l.rows.items ≡ map called_by (map plain_circuit (take l.circuit-index l.circuits))
