use Rattle.std.proofs.Common.{◌≡◌, ℕ, false, get_or, length}
use Rattle.rule_layers.proofs.reads.no_marks.Given as goal

abbrev pub invariant-loop : goal.invariant-loop
invariant-loop l = (length l.marks.items ≡ l.counter) × ((k : ℕ) → get_or l.marks.items k false ≡ false)
