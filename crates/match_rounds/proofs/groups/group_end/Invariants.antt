use Rattle.std.proofs.Common.{◌<◌, ◌≤◌, ℕ}
use Rattle.match_rounds.specs.Pieces.{IsSameKey, entry}
use Rattle.match_rounds.proofs.groups.group_end.Given as goal

abbrev pub invariant-loop-i : goal.invariant-loop-i
invariant-loop-i l = (e : ℕ) → l.from ≤ e → e < l.i → IsSameKey (entry l.parts l.from) (entry l.parts e)
