use Rattle.std.proofs.Common.{◌≡◌, ℕ, [], get_or, length}
use Rattle.gate_phase.specs.Indexes.{index_lists}
use Rattle.gate_phase.proofs.indexes.no_indexes.Given as goal

abbrev pub invariant-loop : goal.invariant-loop
invariant-loop l = record { long : length l.indexes.items ≡ l.counter; none : (k : ℕ) → get_or (index_lists l.indexes.items) k [] ≡ [] }
