use Rattle.std.proofs.Common.{◌≢◌, ◌≤◌, ◌<◌, ℕ, slice_index}
use Rattle.match_rounds.specs.Classes.{class_in}
use Rattle.refine_match.proofs.lefts.first_in.Given as goal

abbrev pub invariant-loop-k : goal.invariant-loop-k
invariant-loop-k l = (k : ℕ) → l.span.next ≤ k → k < l.k → class_in l.classes (slice_index l.nodes k) ≢ l.class
