use Rattle.std.proofs.Common.{◌∙◌, sym, ap, subst, map, List, ℕ}
use Rattle.std.specs.Global.{Vec}
use Rattle.call_order.specs.Order.{lists, AreInRange, IsFound, IsCallOrder}
use Rattle.call_order.specs.declared.order.CallOrder.{CallOrder}
use Rattle.call_order.proofs.Results.{no_cycle}
use Rattle.net_model.specs.Faults.{called_by}
use Rattle.net_model.specs.Rows.{plain_circuit}
use Rattle.net_model.proofs.calls.first_cycle.Goals as goal

pub call_order-requires-clause-range : goal.call_order-requires-clause-range
call_order-requires-clause-range c =
    let same = ap (λ (rows : List (Vec ℕ)). lists rows) c.deref.ensures.value ∙ c.in_ok-calls.ensures in
    subst AreInRange (sym same) c.requires.range

pub returns-in-CalleesFirst : goal.returns-in-CalleesFirst
returns-in-CalleesFirst c =
    let same = ap (λ (rows : List (Vec ℕ)). lists rows) c.deref.ensures.value ∙ c.in_ok-calls.ensures in
    let found = subst (λ (f : CallOrder). IsFound (lists c.deref.result.now) f) c.in-CalleesFirst.is c.in_ok-call_order.ensures in
    no_cycle (map called_by (map plain_circuit c.args.circuits.now)) c.in-CalleesFirst.field-0.items
    (subst (λ (calls : List (List ℕ)). IsCallOrder calls c.in-CalleesFirst.field-0.items) same found)
