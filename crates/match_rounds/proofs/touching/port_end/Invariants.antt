use Rattle.std.proofs.Common.{◌≡◌, ◌<◌, ◌≤◌, ℕ}
use Rattle.match_rounds.specs.Touching.{end_at}
use Rattle.match_rounds.proofs.touching.port_end.Given as goal

abbrev pub invariant-loop-i : goal.invariant-loop-i
invariant-loop-i l = (k : ℕ) → l.from ≤ k → k < l.i → (end_at l.touched k).port ≡ (end_at l.touched l.from).port
