use Rattle.std.proofs.Common.{◌≡◌, ℕ, ◌<◌}
use Rattle.flat_layout.specs.Layout.{Place, IsPlaced, IsReached}
use Rattle.flat_slow.proofs.paths.+is_reached.Given as goal
use Rattle.flat_slow.specs.Paths.{plain}

abbrev pub decreases-is_reached : goal.decreases-is_reached
decreases-is_reached l = l.depth

abbrev pub invariant-loop-parent : goal.invariant-loop-parent
invariant-loop-parent l = (i k : ℕ) (p : Place) → i < l.parent → IsReached (plain l.d) i → IsPlaced (plain l.d) i k p → p.cell ≡ l.cell → ⊥
