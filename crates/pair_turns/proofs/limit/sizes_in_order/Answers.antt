use Rattle.std.proofs.Common.{◌≡◌, ◌+◌, ◌<◌, ◌≤◌, ℕ, List, length, replicate, slice_set, slice_index_or, sym, subst, ap, ◌∙◌, rules, arith}
use Rattle.std.specs.List.{All}
use Rattle.std.proofs.lemmas.List.{length-map}
use Rattle.std.proofs.lemmas.Option.{slice_get-get_or}
use Rattle.plain_netlist.specs.Netlist.{IsCircuit}
use Rattle.net_model.specs.Rows.{plain_circuit, plain_netlist}
use Rattle.net_model.specs.declared.netlist.CallRow.{CallRow}
use Rattle.pair_turns.specs.Limit.{capped, rows_of}
use Rattle.pair_turns.proofs.Sides.{circuit_at, low_calls}
use Rattle.pair_turns.proofs.Sized.{AreSizesBelow, all_sized, in_order, none_sized, sized_more}
use Rattle.pair_turns.proofs.limit.sizes_in_order.Goals as goal

pub loop-circuit-init : goal.loop-circuit-init
loop-circuit-init c =
    let nl = plain_netlist c.args.netlist.now in
    let long = length-map c.args.netlist.now.circuits.items plain_circuit in
    let none : c.in_ok-sizes.sizes.items ≡ replicate (length c.args.netlist.now.circuits.items) 0 = search rules in
    subst (λ (v : List ℕ). AreSizesBelow nl c.args.goes.now c.args.order.now 0 v) (sym (none ∙ ap (λ (n : ℕ). replicate n 0) (sym long))) (none_sized nl c.args.goes.now c.args.order.now)

pub index-requires : goal.index-requires
index-requires c =
    let nl = plain_netlist c.args.netlist.now in
    let order = c.args.order.now in
    let i = c.loop-circuit.circuit-index in
    let below : i < length order = search rules in
    let low = in_order nl order c.requires.order i (slice_index_or order i 0) (slice_get-get_or order i 0 below) in
    let k = length-map c.args.netlist.now.circuits.items plain_circuit in
    let l : slice_index_or order i 0 < length c.args.netlist.now.circuits.items = omega (arith, low, k) in
    search rules

pub rows_of-rows-requires-clause-goes : goal.rows_of-rows-requires-clause-goes
rows_of-rows-requires-clause-goes c =
    let nl = plain_netlist c.args.netlist.now in
    let order = c.args.order.now in
    let i = c.loop-circuit.circuit-index in
    let a = slice_index_or order i 0 in
    let below : i < length order = search rules in
    let low = in_order nl order c.requires.order i a (slice_get-get_or order i 0 below) in
    let k = length-map c.args.netlist.now.circuits.items plain_circuit in
    let at : IsCircuit nl a (plain_circuit c.index.result.now) = circuit_at c.args.netlist.now a c.index.result.now (omega (arith, low, k)) c.index.ensures in
    subst (λ (n : ℕ). All (λ (r : CallRow). r.circuit < n) c.index.result.now.calls.items) (sym c.requires.goes)
    (low_calls c.args.netlist.now c.requires.good.0 c.requires.good.1 a c.index.result.now at)

pub rows_of-rows-requires-clause-sizes : goal.rows_of-rows-requires-clause-sizes
rows_of-rows-requires-clause-sizes c =
    let nl = plain_netlist c.args.netlist.now in
    let order = c.args.order.now in
    let i = c.loop-circuit.circuit-index in
    let a = slice_index_or order i 0 in
    let below : i < length order = search rules in
    let low = in_order nl order c.requires.order i a (slice_get-get_or order i 0 below) in
    let k = length-map c.args.netlist.now.circuits.items plain_circuit in
    let at : IsCircuit nl a (plain_circuit c.index.result.now) = circuit_at c.args.netlist.now a c.index.result.now (omega (arith, low, k)) c.index.ensures in
    let same : c.deref.result.now ≡ c.loop-circuit.sizes.items = search rules in
    let long : length c.deref.result.now ≡ length c.args.netlist.now.circuits.items = ap (λ (v : List ℕ). length v) same ∙ c.loop-circuit.invariant.long ∙ k in
    subst (λ (n : ℕ). All (λ (r : CallRow). r.circuit < n) c.index.result.now.calls.items) (sym long)
    (low_calls c.args.netlist.now c.requires.good.0 c.requires.good.1 a c.index.result.now at)

pub rows_of-rows-requires-clause-capped : goal.rows_of-rows-requires-clause-capped
rows_of-rows-requires-clause-capped c =
    let same : c.deref.result.now ≡ c.loop-circuit.sizes.items = search rules in
    subst (λ (v : List ℕ). All (λ n. n ≤ 16777217) v) (sym same) c.loop-circuit.invariant.low

pub index_mut-requires : goal.index_mut-requires
index_mut-requires c =
    let nl = plain_netlist c.args.netlist.now in
    let order = c.args.order.now in
    let i = c.loop-circuit.circuit-index in
    let below : i < length order = search rules in
    let low = in_order nl order c.requires.order i (slice_index_or order i 0) (slice_get-get_or order i 0 below) in
    let k = c.loop-circuit.invariant.long in
    let l : slice_index_or order i 0 < length c.loop-circuit.sizes.items = omega (arith, low, k) in
    search rules

pub loop-circuit-preserved : goal.loop-circuit-preserved
loop-circuit-preserved c =
    let nl = plain_netlist c.args.netlist.now in
    let order = c.args.order.now in
    let i = c.loop-circuit.circuit-index in
    let a = slice_index_or order i 0 in
    let sizes = c.loop-circuit.sizes.items in
    let below : i < length order = search rules in
    let here = slice_get-get_or order i 0 below in
    let low = in_order nl order c.requires.order i a here in
    let k = length-map c.args.netlist.now.circuits.items plain_circuit in
    let at : IsCircuit nl a (plain_circuit c.index.result.now) = circuit_at c.args.netlist.now a c.index.result.now (omega (arith, low, k)) c.index.ensures in
    let same : c.deref.result.now ≡ sizes = search rules in
    let found : c.rows_of-rows.result ≡ capped (rows_of c.args.goes.now sizes (plain_circuit c.index.result.now)) =
    c.rows_of-rows.ensures ∙ ap (λ (v : List ℕ). capped (rows_of c.args.goes.now v (plain_circuit c.index.result.now))) same in
    subst (λ (n : ℕ). AreSizesBelow nl c.args.goes.now order (i + 1) (slice_set sizes a n)) (sym found)
    (sized_more nl c.args.goes.now order c.requires.order i a (plain_circuit c.index.result.now) sizes here at c.loop-circuit.invariant)

pub returns : goal.returns
returns c =
    let order = c.args.order.now in
    let long : length order ≤ c.loop-circuit.circuit-index = search rules in
    all_sized (plain_netlist c.args.netlist.now) c.args.goes.now order c.requires.order c.loop-circuit.circuit-index c.loop-circuit.sizes.items long c.loop-circuit.invariant
