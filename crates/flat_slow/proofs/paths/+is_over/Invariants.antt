use Rattle.std.proofs.Common.{ℕ, ◌<◌}
use Rattle.flat_layout.specs.Layout.{Place}
use Rattle.flat_slow.proofs.paths.+is_over.Given as goal
use Rattle.flat_slow.specs.Paths.{IsThrough, plain}

abbrev pub decreases-is_over : goal.decreases-is_over
decreases-is_over l = l.depth

abbrev pub invariant-loop-k : goal.invariant-loop-k
invariant-loop-k l = (j : ℕ) (p : Place) → j < l.k → IsThrough (plain l.d) l.cell l.skip l.key l.q j p → ⊥
