use Rattle.std.proofs.Common.{◌≡◌, ℕ, get_or, length}
use Rattle.link_classes.proofs.forest.Forest.new.Given as goal
use Rattle.link_classes.specs.Forest.{AreAlone}

abbrev pub invariant-loop-i : goal.invariant-loop-i
invariant-loop-i l = AreAlone l.parent.items l.i × (length l.rank.items ≡ l.i) × ((k : ℕ) → get_or l.rank.items k 0 ≡ 0)
