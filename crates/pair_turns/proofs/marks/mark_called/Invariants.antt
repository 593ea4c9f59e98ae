use Rattle.std.proofs.Common.{◌≡◌, ◌<◌, ℕ, false, length}
use Rattle.std.specs.Prelude.{◌||◌, ◌==◌, slice_index_or}
use Rattle.std.specs.List.{All, list_any}
use Rattle.pair_turns.proofs.marks.mark_called.Given as goal

abbrev pub invariant-calls : goal.invariant-calls
invariant-calls l = (length l.marks.items ≡ length l.initial.marks.items) × ((k : ℕ) → (slice_index_or l.marks.items k false || list_any (λ r. r.circuit == k) l.rest) ≡ (slice_index_or l.initial.marks.items k false || list_any (λ r. r.circuit == k) l.calls)) × All (λ r. r.circuit < length l.initial.marks.items) l.rest

abbrev pub decreases-calls : goal.decreases-calls
decreases-calls l = length l.rest
