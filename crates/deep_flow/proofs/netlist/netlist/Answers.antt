use Rattle.std.proofs.Common.{rules, ◌≡◌, ◌∷◌, [], arith}
use Rattle.pin_phase.proofs.Marking.{nothing}
use Rattle.deep_flow.proofs.Moved.{moved, moved_all, moved_more}
use Rattle.deep_flow.proofs.netlist.netlist.Goals as goal

pub loop-value-preserved : goal.loop-value-preserved
loop-value-preserved c =
    let rest = c.loop-value.value-iterator.rest.items in let tail = c.next.new.self.rest.items in
    let s : rest ≡ c.in-Some.value ∷ tail = search rules in
    moved_more (moved c.args.values.items) c.loop-value.circuits.items c.push_circuit.new.out.items rest tail c.in-Some.value s c.in_ok-push_circuit.ensures c.loop-value.invariant

pub returns : goal.returns
returns c =
    let rest = c.loop-value.value-iterator.rest.items in
    let long = c.loop-value.value-iterator.rest.ok.0 in let none = c.in-None.ensures.steps.0 in
    let s : rest ≡ [] = nothing rest (omega (arith, long, none)) in
    moved_all (moved c.args.values.items) c.loop-value.circuits.items rest s c.loop-value.invariant
