use Rattle.std.proofs.Common.{◌≡◌, ℕ, List, map, sym, subst, ap, ◌∙◌}
use Rattle.std.specs.Global.{Vec}
use Rattle.call_order.specs.Order.{lists, AreInRange, IsFound, IsFirstInCycle, ReachesItself}
use Rattle.call_order.specs.declared.order.CallOrder.{CallOrder}
use Rattle.net_model.specs.Faults.{called_by}
use Rattle.net_model.specs.Rows.{plain_circuit}
use Rattle.view_netlist.proofs.section.callees_first.Goals as goal

pub call_order-requires-clause-range : goal.call_order-requires-clause-range
call_order-requires-clause-range c =
    let all = map called_by (map plain_circuit c.args.circuits.now) in
    let same : lists c.deref.result.now ≡ all = ap (λ (rows : List (Vec ℕ)). lists rows) c.deref.ensures.value ∙ c.in_ok-calls.ensures in
    subst (λ (t : List (List ℕ)). AreInRange t) (sym same) c.requires.range

pub returns : goal.returns
returns c =
    let all = map called_by (map plain_circuit c.args.circuits.now) in
    let same : lists c.deref.result.now ≡ all = ap (λ (rows : List (Vec ℕ)). lists rows) c.deref.ensures.value ∙ c.in_ok-calls.ensures in
    let found : IsFirstInCycle (lists c.deref.result.now) c.in-Cycle.field-0 = subst (λ (f : CallOrder). IsFound (lists c.deref.result.now) f) c.in-Cycle.is c.in_ok-order.ensures in
    absurd (c.requires.no_cycle c.in-Cycle.field-0 (subst (λ (t : List (List ℕ)). ReachesItself t c.in-Cycle.field-0) same found.reaches))
