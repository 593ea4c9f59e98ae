use Rattle.std.proofs.Common.{◌≡◌, [], ◌<◌, ℕ}
use Rattle.call_order.specs.Order.{lists}
use Rattle.call_order.specs.Walk.{seen, IsWalk, IsUnmet}
use Rattle.call_order.proofs.order.call_order.Given as goal

abbrev pub invariant-loop-k : goal.invariant-loop-k
invariant-loop-k l =
    IsWalk (lists l.calls) (seen l.walk) × (l.walk.calls.now ≡ l.calls) × (l.walk.work.items ≡ []) × ((j : ℕ) → j < l.k → IsUnmet (seen l.walk) j → ⊥)
