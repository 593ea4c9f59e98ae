use Rattle.std.proofs.Common.{◌≡◌, length}
use Rattle.call_order.specs.Walk.{seen, joined}
use Rattle.call_order.proofs.walk.Walk.join.Given as goal

abbrev pub invariant-rings : goal.invariant-rings
invariant-rings l = (joined (seen l.self) l.place ≡ joined (seen l.initial.self) l.place) × (l.self.calls ≡ l.initial.self.calls)

abbrev pub decreases-rings : goal.decreases-rings
decreases-rings l = length l.self.rings.items
