use Rattle.std.proofs.Common.{◌≡◌}
use Rattle.call_order.specs.Order.{lists}
use Rattle.call_order.specs.Walk.{seen, weight, IsWalk, HasMet}
use Rattle.call_order.proofs.walk.Walk.visit.Given as goal

abbrev pub invariant-steps : goal.invariant-steps
invariant-steps l = IsWalk (lists l.fn.self.calls.now) (seen l.self) × HasMet (seen l.fn.self) (seen l.self) l.k × (l.self.calls ≡ l.fn.self.calls)

abbrev pub decreases-steps : goal.decreases-steps
decreases-steps l = weight (lists l.self.calls.now) (seen l.self)
