use Rattle.std.proofs.Common.{◌≡◌, ◌<◌, ℕ, false}
use Rattle.pair_turns.specs.Limit.{is_over}
use Rattle.pair_turns.proofs.limit.first_over.Given as goal

abbrev pub invariant-pairs : goal.invariant-pairs
invariant-pairs l = (j : ℕ) → j < l.k → is_over l.goes l.lefts.items l.rights.items j ≡ false
