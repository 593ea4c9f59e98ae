use Rattle.std.proofs.Common.{◌≡◌, ◌+◌, ℕ, [], length}
use Rattle.rect_sets.specs.Stripes.{lists_of, list_at}
use Rattle.rect_sets.proofs.divide.no_parts.Given as goal

abbrev pub invariant-loop : goal.invariant-loop
invariant-loop l = record {
  count : length (lists_of l.parts.items) ≡ l.counter + 1;
  none : (j : ℕ) → list_at l.parts.items j ≡ [];
}
