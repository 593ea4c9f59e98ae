use Rattle.std.proofs.Common.{◌≡◌, ◌+◌, ◌<◌, ℕ, List, length, get_or, sym, ◌∙◌, ap, subst, arith}
use Rattle.std.proofs.lemmas.List.{map_push}
use Rattle.std.specs.Global.{Vec}
use Rattle.job_graph.specs.Graph.{lists}
use Rattle.net_model.specs.Rows.{plain_circuit, plain_netlist}
use Rattle.net_model.specs.declared.netlist.Circuit.{Circuit}
use Rattle.plain_netlist.specs.Netlist.{IsCircuit}
use Rattle.pair_jobs.proofs.Called.{called_jobs, called_lower, called_more, circuit_at, count_of, if_ok}
use Rattle.pair_jobs.proofs.jobs.pair_graph.Goals as goal
use Rattle.pair_jobs.specs.Jobs.{AreCalledBelow, AreCalledJobs}

pub loop-circuit-preserved : goal.loop-circuit-preserved
loop-circuit-preserved c =
    let nl = c.args.left.now in
    let n = c.loop-circuit.circuit-index in
    let old = c.loop-circuit.inputs.items in
    let circuit = c.circuit-item.result in
    let called = c.in_ok-called.field-0 in
    let same = ap (λ (l : List Circuit). length l) c.deref-circuit-items.ensures.value in
    let within : n < length nl.circuits.items = omega (arith, same) in
    let item : circuit ≡ get_or nl.circuits.items n circuit = c.circuit-item.is ∙ ap (λ (l : List Circuit). get_or l n circuit) c.deref-circuit-items.ensures.value in
    let is : IsCircuit (plain_netlist nl) n (plain_circuit circuit) = subst (λ (x : Circuit). IsCircuit (plain_netlist nl) n (plain_circuit x)) (sym item) (circuit_at nl n circuit within) in
    let more = called_more (plain_netlist nl) n (lists old) (plain_circuit circuit) called.items is c.in_ok-called.ensures c.loop-circuit.invariant in
    rw c.in_ok-push.ensures.items (subst (λ (l : List (List ℕ)). AreCalledBelow (plain_netlist nl) (n + 1) l) (sym (map_push (λ (v : Vec ℕ). v.items) old called)) more)

pub from_inputs-requires : goal.from_inputs-requires
from_inputs-requires c =
    let nl = c.args.left.now in
    let same = ap (λ (l : List Circuit). length l) c.deref-circuit-items.ensures.value in
    let count = count_of nl in
    let end : c.loop-circuit.circuit-index ≡ length (plain_netlist nl).circuits = (let a = c.loop-circuit-test.false in let b = c.loop-circuit.auto.circuit-index-end in omega (arith, a, b, same, count)) in
    called_lower (plain_netlist nl) c.loop-circuit.circuit-index (lists c.loop-circuit.inputs.items) c.requires end c.loop-circuit.invariant

pub returns : goal.returns
returns c =
    let nl = c.args.left.now in
    let same = ap (λ (l : List Circuit). length l) c.deref-circuit-items.ensures.value in
    let count = count_of nl in
    let end : c.loop-circuit.circuit-index ≡ length (plain_netlist nl).circuits = (let a = c.loop-circuit-test.false in let b = c.loop-circuit.auto.circuit-index-end in omega (arith, a, b, same, count)) in
    if_ok _ _ c.from_inputs.result (λ g is. subst (AreCalledJobs (plain_netlist nl)) (sym is) (called_jobs (plain_netlist nl) c.loop-circuit.circuit-index (lists c.loop-circuit.inputs.items) end c.loop-circuit.invariant)) c.from_inputs.ensures.ok
