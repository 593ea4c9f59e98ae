use Rattle.std.proofs.Common.{◌≡◌, ◌≤◌, drop}
use Rattle.rule_text.specs.Rows.{number_from}
use Rattle.rule_text.proofs.slots.spelled.Given as goal

abbrev pub invariant-loop-b : goal.invariant-loop-b
invariant-loop-b l = (l.n ≤ l.limit) × (number_from l.limit l.n (drop l.b-index l.word) ≡ number_from l.limit 0 l.word)
