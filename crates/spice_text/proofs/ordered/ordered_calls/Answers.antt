use Rattle.std.proofs.Common.{◌≡◌, ◌∙◌, ap, map, List, ℕ}
use Rattle.std.specs.Global.{Vec}
use Rattle.call_order.specs.Order.{lists}
use Rattle.spice_text.specs.Circuits.{call_lists}
use Rattle.spice_text.specs.Seen.{circuit_seen}
use Rattle.spice_text.proofs.ordered.ordered_calls.Goals as goal

pub circuit_order-requires-clause-calls : goal.circuit_order-requires-clause-calls
circuit_order-requires-clause-calls c =
    let rows : lists c.in_ok-calls.calls.items ≡ call_lists (map circuit_seen c.args.circuits.now) = c.in_ok-calls.ensures in
    ap (λ (xs : List (Vec ℕ)). lists xs) c.deref.ensures.value ∙ rows
