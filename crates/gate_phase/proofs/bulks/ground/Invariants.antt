use Rattle.std.proofs.Common.{◌≡◌, ◌<◌, ℕ, Some, slice_get}
use Rattle.net_walk.specs.declared.globals.Grounded.{Grounded}
use Rattle.gate_phase.proofs.bulks.ground.Given as goal

abbrev pub invariant-loop-line : goal.invariant-loop-line
invariant-loop-line l = (k : ℕ) (g : Grounded) → k < l.line-index → slice_get l.lines k ≡ Some g → g.conductor ≡ l.conductor → ⊥
