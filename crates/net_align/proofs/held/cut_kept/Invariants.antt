use Rattle.std.proofs.Common.{◌≡◌, map, take}
use Rattle.call_order.specs.Order.{lists}
use Rattle.net_model.specs.Rows.{plain_circuit}
use Rattle.net_align.specs.Kept.{cut_of}
use Rattle.net_align.proofs.held.cut_kept.Given as goal

abbrev pub invariant-loop-circuit : goal.invariant-loop-circuit
invariant-loop-circuit g l = map plain_circuit l.cuts.items ≡ map (cut_of g.given.flattening.flats l.numbers (lists l.held)) (take l.circuit-index l.circuits)
