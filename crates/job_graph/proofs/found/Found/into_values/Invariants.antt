use Rattle.std.proofs.Common.{◌≡◌, ℕ, ◌<◌, ◌++◌, length, map, Some}
use Rattle.job_graph.specs.Sharing.{IsFound}
use Rattle.job_graph.proofs.found.Found.into_values.Given as goal

abbrev pub invariant-loop-value : goal.invariant-loop-value
invariant-loop-value g l = record {
  same : l.fn.self ≡ map (λ v. Some v) l.values.items ++ l.value-iterator.rest.items;
  left : (k : ℕ) → k < length l.value-iterator.rest.items → IsFound l.value-iterator.rest.items k;
}
