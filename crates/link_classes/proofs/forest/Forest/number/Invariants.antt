use Rattle.std.proofs.Common.{◌≡◌, ℕ, None, get_or, length}
use Rattle.link_classes.proofs.forest.Forest.number.Given as goal
use Rattle.link_classes.specs.Forest.{IsForest, SoFar}

abbrev pub invariant-loop : goal.invariant-loop
invariant-loop l = (length l.class_at.items ≡ l.counter) × ((r : ℕ) → get_or l.class_at.items r None ≡ None)

abbrev pub invariant-loop-i : goal.invariant-loop-i
invariant-loop-i l = IsForest l.self.parent.items l.self.rank.items × SoFar l.fn.self.parent.items l.self.parent.items l.class_at.items l.i l.class_of.items l.count
