use Rattle.std.proofs.Common.{ℕ, List, length, refl, subst, ◌∙◌, arith}
use Rattle.match_parts.specs.Rows.{AreBelow, AreCallPins}
use Rattle.match_types.specs.Children.{children_of}
use Rattle.net_model.specs.Rows.{plain_call}
use Rattle.match_tests.proofs.Rows.{next_row}
use Rattle.match_tests.proofs.fitting.calls_fit.Goals as goal

pub loop-k-preserved : goal.loop-k-preserved
loop-k-preserved c =
    let circuit = c.args.circuit.now in
    let t = c.loop-k-test.true in
    let e = c.len-k-end.ensures in
    let o = circuit.calls.ok.0 in
    next_row plain_call (λ r. AreBelow r.nets (length circuit.nets.items) × AreCallPins (children_of c.args.children.now) r) circuit.calls.items c.loop-k.k c.index-call.result.now c.loop-k.invariant (omega arith) c.index-call.ensures (
      subst (λ (n : ℕ). AreBelow c.index-call.result.now.nets.items n) (c.len.ensures ∙ circuit.nets.ok.0) (subst (λ (xs : List ℕ). AreBelow xs c.len.result) c.deref.ensures.value (c.if-not-are_below.ensures refl)),
      c.in_ok-pins_fit.ensures c.if-not-branch.false,
    )

pub returns : goal.returns
returns c = λ t k r l e.
    let circuit = c.args.circuit.now in
    let f = c.loop-k-test.false in
    let g = c.len-k-end.ensures in
    let o = circuit.calls.ok.0 in
    c.loop-k.invariant k r (omega arith) e
