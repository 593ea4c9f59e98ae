use Rattle.std.proofs.Common.{ℕ, ◌≤◌, length, refl, subst, ◌∙◌, rules, arith}
use Rattle.match_parts.specs.Rows.{AreTerminalsBelow}
use Rattle.net_model.specs.Rows.{plain_device}
use Rattle.match_tests.proofs.Rows.{next_row}
use Rattle.match_tests.proofs.fitting.devices_fit.Goals as goal

pub loop-k-preserved : goal.loop-k-preserved
loop-k-preserved c =
    let circuit = c.args.circuit.now in
    let t = c.loop-k-test.true in
    let e = c.len-k-end.ensures in
    let o = circuit.devices.ok.0 in
    next_row plain_device (λ d. AreTerminalsBelow d (length circuit.nets.items)) circuit.devices.items c.loop-k.k c.index.result.now c.loop-k.invariant (omega arith) c.index.ensures
    (subst (λ (n : ℕ). AreTerminalsBelow (plain_device c.index.result.now) n) (c.len.ensures ∙ circuit.nets.ok.0) (c.if-not-device_fits.ensures refl))

pub returns : goal.returns
returns c e k d l at =
    let long : length c.args.circuit.now.devices.items ≤ c.loop-k.k = search rules in
    c.loop-k.invariant k d (omega (arith, l, long)) at
