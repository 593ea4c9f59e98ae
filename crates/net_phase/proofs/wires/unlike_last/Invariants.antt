use Rattle.std.proofs.Common.{◌↔◌, ℕ, take}
use Rattle.std.specs.List.{Contains}
use Rattle.net_phase.proofs.wires.unlike_last.Given as goal

abbrev pub invariant-loop-line : goal.invariant-loop-line
invariant-loop-line l = (x : ℕ × ℕ) → Contains l.once.items x ↔ Contains (take l.line-index l.lines) x
