use Rattle.std.proofs.Common.{◌∙◌, ◌++◌, ◌∷◌, [], List, ap, sym, take}
use Rattle.std.proofs.lemmas.List.{take_all, take_more}
use Rattle.deep_tables.specs.declared.gates.Gate.{Gate}
use Rattle.gate_phase.proofs.copies.copies_of.Goals as goal

pub loop-gate-preserved : goal.loop-gate-preserved
loop-gate-preserved c =
    let gates = c.args.gates.now in let i = c.loop-gate.gate-index in
    c.in_ok-push.ensures.items ∙ ap (λ (l : List Gate). l ++ c.in_ok-copy.copy ∷ []) c.loop-gate.invariant
    ∙ ap (λ (g : Gate). take i gates ++ g ∷ []) (c.in_ok-copy.ensures ∙ c.gate-item.is) ∙ sym (take_more gates i c.gate-item.result c.loop-gate-test.true)

pub returns : goal.returns
returns c = c.loop-gate.invariant ∙ take_all c.loop-gate.gate-index c.args.gates.now c.loop-gate-test.false
