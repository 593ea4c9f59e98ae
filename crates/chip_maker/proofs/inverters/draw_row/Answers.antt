use Rattle.std.proofs.Common.{◌≡◌, List, length, ◌∙◌, ap, arith}
use Rattle.std.proofs.lemmas.List.FromFn.{length-map-range_with_len}
use Rattle.chip_maker.specs.Inverters.{inverter, next}
use Rattle.chip_maker.specs.declared.inverters.Kind.{Kind}
use Rattle.chip_maker.proofs.Drawing.{step, more}
use Rattle.chip_maker.proofs.inverters.draw_row.Goals as goal

pub loop-preserved : goal.loop-preserved
loop-preserved c =
    let s = c.args.state.now in
    let state = c.next.ensures ∙ ap next c.loop.invariant.1 ∙ step s c.loop.counter in
    (c.in_ok-push.ensures.items ∙ more s c.loop.counter c.next.result c.loop.kinds.items c.kind_by.result c.loop.invariant.0 state c.kind_by.ensures, state)

pub invariant_of-result : goal.invariant_of-result
invariant_of-result c =
    let e : length c.loop.kinds.items ≡ c.loop.counter = ap (λ (ks : List Kind). length ks) c.loop.invariant.0 ∙ length-map-range_with_len (inverter c.args.state.now) 0 c.loop.counter in omega arith
