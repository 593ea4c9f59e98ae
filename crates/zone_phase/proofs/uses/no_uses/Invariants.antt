use Rattle.std.proofs.Common.{◌≡◌, ℕ, [], length}
use Rattle.zone_phase.specs.Uses.{lists_of, uses_of}
use Rattle.zone_phase.proofs.uses.no_uses.Given as goal

abbrev pub invariant-loop : goal.invariant-loop
invariant-loop l = record {
  count : length (lists_of l.lists.items) ≡ l.counter;
  empty : (cell : ℕ) → uses_of (lists_of l.lists.items) cell ≡ [];
}
