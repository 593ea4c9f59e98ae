use Rattle.std.proofs.Common.{◌≡◌, ◌<◌, ℕ, List, Some, slice_get}
use Rattle.gate_phase.proofs.shape.is_loose.Given as goal

abbrev pub invariant-loop-grounded : goal.invariant-loop-grounded
invariant-loop-grounded l = (k : ℕ) (g : ℕ × List ℕ) → k < l.grounded-index → slice_get l.rules.globals.items k ≡ Some g → g.0 ≡ l.conductor → ⊥
