use Rattle.std.proofs.Common.{◌≡◌, drop}
use Rattle.call_order.specs.Walk.{seen, closing, AreThere}
use Rattle.call_order.proofs.walk.Walk.close.Given as goal

abbrev pub invariant-numbers : goal.invariant-numbers
invariant-numbers l =
    (closing l.ring.is_cycle (drop l.i l.self.path.items) (seen l.self) ≡ closing l.ring.is_cycle (drop l.ring.path l.initial.self.path.items) (seen l.initial.self))
    × (l.self.path.items ≡ l.initial.self.path.items) × AreThere (seen l.self) × (l.self.calls ≡ l.initial.self.calls)
