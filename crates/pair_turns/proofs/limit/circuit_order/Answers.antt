use Rattle.std.proofs.Common.{◌≡◌, ℕ, List, map, sym, subst, ap, ◌∙◌}
use Rattle.std.specs.Global.{Vec}
use Rattle.call_order.specs.Order.{lists, AreInRange, IsFound, IsFirstInCycle, ReachesItself}
use Rattle.call_order.specs.declared.order.CallOrder.{CallOrder}
use Rattle.net_model.specs.Faults.{call_lists, called_by}
use Rattle.net_model.specs.Rows.{plain_netlist, plain_circuit}
use Rattle.net_model.specs.declared.netlist.Circuit.{Circuit}
use Rattle.pair_turns.proofs.Sides.{in_range, no_cycle}
use Rattle.pair_turns.proofs.limit.circuit_order.Goals as goal

pub call_order-requires-clause-range : goal.call_order-requires-clause-range
call_order-requires-clause-range c =
    let nl = plain_netlist c.args.netlist.now in
    let same : lists c.deref-2.result.now ≡ call_lists nl =
    ap (λ (rows : List (Vec ℕ)). lists rows) c.deref-2.ensures.value ∙ (c.in_ok-calls.ensures ∙ ap (λ (xs : List Circuit). map called_by (map plain_circuit xs)) c.deref.ensures.value) in
    subst (λ (t : List (List ℕ)). AreInRange t) (sym same) (in_range nl c.requires.good.0 c.requires.good.1)

pub returns : goal.returns
returns c =
    let nl = plain_netlist c.args.netlist.now in
    let same : lists c.deref-2.result.now ≡ call_lists nl =
    ap (λ (rows : List (Vec ℕ)). lists rows) c.deref-2.ensures.value ∙ (c.in_ok-calls.ensures ∙ ap (λ (xs : List Circuit). map called_by (map plain_circuit xs)) c.deref.ensures.value) in
    let found : IsFirstInCycle (lists c.deref-2.result.now) c.in-Cycle.field-0 = subst (λ (f : CallOrder). IsFound (lists c.deref-2.result.now) f) c.in-Cycle.is c.in_ok-order.ensures in
    absurd (no_cycle nl c.requires.good.0 c.requires.good.1 c.in-Cycle.field-0 (subst (λ (t : List (List ℕ)). ReachesItself t c.in-Cycle.field-0) same found.reaches))
