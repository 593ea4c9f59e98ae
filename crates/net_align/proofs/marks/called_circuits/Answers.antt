use Rattle.std.proofs.Common.{◌≡◌, ◌<◌, ℕ, Bool, false, List, Some, map, take, length, replicate, sym, subst, ap, ap₂, ◌∙◌, rules, arith}
use Rattle.base_laws.proofs.Items.{map_to}
use Rattle.std.specs.Prelude.{slice_get}
use Rattle.std.proofs.lemmas.List.{length-map, length-replicate}
use Rattle.plain_netlist.specs.Netlist.{Circuit as PlainCircuit, IsCircuit}
use Rattle.net_model.specs.Rows.{plain_circuit, plain_call, plain_netlist}
use Rattle.net_model.specs.declared.netlist.CallRow.{CallRow}
use Rattle.net_model.proofs.CheckLemmas.{called_same}
use Rattle.net_align.specs.Marks.{marked, marked_by}
use Rattle.net_align.proofs.Marking.{marked_by_more, marked_by_long}
use Rattle.net_align.proofs.Rows.{map_more, circuit_at}
use Rattle.net_align.proofs.marks.called_circuits.Goals as goal

pub mark_called-requires : goal.mark_called-requires
mark_called-requires c i r e =
    let nl = c.args.netlist.now in
    let xs = nl.circuits.items in
    let k = c.loop-circuit.circuit-index in
    let x = c.circuit-item.result in
    let n = length xs in
    let same : c.deref-circuit-items.result.now ≡ xs = c.deref-circuit-items.ensures.value in
    let below : k < length xs = search rules in
    let at : IsCircuit (plain_netlist nl) k (plain_circuit x) = circuit_at nl k x below (search rules) in
    let row : slice_get x.calls.items i ≡ Some r = subst (λ (t : List CallRow). slice_get t i ≡ Some r) c.deref.ensures.value e in
    let low : r.circuit < length (map plain_circuit xs) = c.requires k i (plain_call r) (plain_circuit x, at, map_to plain_call x.calls.items i r row) in
    let a : length c.loop-circuit.marks.items ≡ n =
    ap (λ (t : List Bool). length t) c.loop-circuit.invariant ∙ (marked_by_long (map plain_circuit (take k c.deref-circuit-items.result.now)) (replicate n false) ∙ length-replicate n false) in
    let b = length-map xs plain_circuit in
    omega (arith, low, a, b)

pub loop-circuit-preserved : goal.loop-circuit-preserved
loop-circuit-preserved c =
    let xs = c.deref-circuit-items.result.now in
    let k = c.loop-circuit.circuit-index in
    let x = c.circuit-item.result in
    let none = replicate (length c.args.netlist.now.circuits.items) false in
    let below : k < length xs = search rules in
    let ids : map (λ (r : CallRow). r.circuit) c.deref.result.now ≡ _ = ap (λ (t : List CallRow). map (λ (r : CallRow). r.circuit) t) c.deref.ensures.value ∙ called_same x.calls.items in
    c.mark_called.ensures
    ∙ (ap₂ (λ (t : List ℕ) (m : List Bool). marked t m) ids c.loop-circuit.invariant
    ∙ (sym (marked_by_more (map plain_circuit (take k xs)) (plain_circuit x) none)
    ∙ ap (λ (t : List PlainCircuit). marked_by t none) (sym (map_more plain_circuit xs k x below c.circuit-item.is))))
