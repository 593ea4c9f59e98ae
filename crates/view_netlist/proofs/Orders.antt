-- The circuits of an order are there.
use Rattle.std.proofs.Common.{◌<◌, ℕ, List, length, map, get_or, arith}
use Rattle.std.specs.List.{All}
use Rattle.std.proofs.lemmas.List.{length-map}
use Rattle.std.proofs.lemmas.Option.{slice_get-get_or}
use Rattle.call_order.specs.Order.{IsCallOrder}
use Rattle.net_model.specs.Faults.{called_by}
use Rattle.net_model.specs.Rows.{plain_circuit}
use Rattle.net_model.specs.declared.netlist.Circuit.{Circuit}
use Rattle.plain_netlist.proofs.Members.{listed}

pub order_there : (cs : List Circuit) (order : List ℕ) → IsCallOrder (map called_by (map plain_circuit cs)) order → All (λ k. k < length cs) order
order_there cs order h k d lt =
    let less = h.within (get_or order k d) (listed order k (get_or order k d) (slice_get-get_or order k d lt)) in
    let a = length-map (map plain_circuit cs) called_by in
    let b = length-map cs plain_circuit in
    omega (arith, less, a, b)
