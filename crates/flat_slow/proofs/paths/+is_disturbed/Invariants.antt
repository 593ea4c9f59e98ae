use Rattle.std.proofs.Common.{ℕ, ◌<◌}
use Rattle.flat_layout.specs.Layout.{Place}
use Rattle.flat_slow.proofs.paths.+is_disturbed.Given as goal
use Rattle.flat_slow.specs.Paths.{IsDisturbedBy, plain}

abbrev pub decreases-is_disturbed : goal.decreases-is_disturbed
decreases-is_disturbed l = l.depth

abbrev pub invariant-loop-parent : goal.invariant-loop-parent
invariant-loop-parent l = (i k : ℕ) (p : Place) → i < l.parent → IsDisturbedBy (plain l.d) l.cell l.key l.q i k p → ⊥

abbrev pub invariant-loop-k : goal.invariant-loop-k
invariant-loop-k l = (k : ℕ) (p : Place) → k < l.k → IsDisturbedBy (plain l.d) l.cell l.key l.q l.parent k p → ⊥
