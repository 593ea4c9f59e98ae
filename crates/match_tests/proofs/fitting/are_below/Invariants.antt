use Rattle.std.proofs.Common.{ℕ, ◌<◌, slice_index}
use Rattle.match_tests.proofs.fitting.are_below.Given as goal

abbrev pub invariant-loop-i : goal.invariant-loop-i
invariant-loop-i l = (j : ℕ) → j < l.i → slice_index l.numbers j < l.count
