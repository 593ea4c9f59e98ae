use Rattle.std.proofs.Common.{rules, ◌∙◌, sym, subst, ap, map, ℕ, List}
use Rattle.call_order.specs.Order.{lists, AreInRange, IsFound, IsFirstInCycle}
use Rattle.call_order.specs.declared.order.CallOrder.{CallOrder}
use Rattle.spice_text.specs.declared.gather.CircuitCards.{CircuitCards}
use Rattle.spice_text.specs.Seen.{circuit_seen}
use Rattle.spice_text.proofs.CallLemmas.{in_range, count_is, cycle_at, got}
use Rattle.spice_text.proofs.ordered.circuit_order.Goals as goal

pub call_order-requires-clause-range : goal.call_order-requires-clause-range
call_order-requires-clause-range c =
    subst (λ (xs : List (List ℕ)). AreInRange xs) (sym c.requires.calls) (in_range (map circuit_seen c.args.circuits.now) c.requires.called)

pub call_order-requires-clause-few : goal.call_order-requires-clause-few
call_order-requires-clause-few c =
    let n = count_is c.args.calls.now c.args.circuits.now c.requires.calls in
    let b = c.requires.few in
    rw n (search rules)

pub returns-in_ok-name-in-Cycle-clause-fault : goal.returns-in_ok-name-in-Cycle-clause-fault
returns-in_ok-name-in-Cycle-clause-fault c =
    let cs = map circuit_seen c.args.circuits.now in
    let found : IsFound (lists c.args.calls.now) c.in_ok-order.field-0 = c.in_ok-order.ensures in
    let first : IsFirstInCycle (lists c.args.calls.now) c.in-Cycle.k = subst (λ (o : CallOrder). IsFound (lists c.args.calls.now) o) c.in-Cycle.is found in
    let is_first = subst (λ (xs : List (List ℕ)). IsFirstInCycle xs c.in-Cycle.k) c.requires.calls first in
    let at = cycle_at cs c.in-Cycle.k is_first in
    (c.requires.apart, c.requires.called, c.requires.counts, (c.in-Cycle.k, is_first, circuit_seen c.index-circuits-k.result, got c.args.circuits.now c.in-Cycle.k c.index-circuits-k.result at.0 at.1 c.index-circuits-k.is, ap (λ (x : CircuitCards). x.name) c.index-circuits-k.is ∙ sym c.in_ok-name-in-Cycle.ensures))
