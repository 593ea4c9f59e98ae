use Rattle.std.proofs.Common.{◌≡◌, ◌++◌}
use Rattle.deep_tables.proofs.indexed.indexed_sets.Given as goal

abbrev pub invariant-loop-set : goal.invariant-loop-set
invariant-loop-set l = (l.fn.sets.items ≡ l.yielded ++ l.set-iterator.rest.items) × (l.out.items ≡ l.yielded)
