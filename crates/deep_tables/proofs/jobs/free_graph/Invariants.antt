use Rattle.std.proofs.Common.{◌≡◌, ℕ, [], length}
use Rattle.job_graph.specs.Graph.{inputs_of, lists}
use Rattle.deep_tables.proofs.jobs.free_graph.Given as goal

abbrev pub invariant-loop : goal.invariant-loop
invariant-loop l = record {
  count : length (lists l.inputs.items) ≡ l.counter;
  empty : (job : ℕ) → inputs_of (lists l.inputs.items) job ≡ [];
}
