use Rattle.std.proofs.Common.{◌≡◌, ◌<◌, ℕ, length}
use Rattle.job_graph.specs.Graph.{AreAscending, inputs_of, lists}
use Rattle.job_tests.proofs.graphs.graph_of.Given as goal

abbrev pub invariant-loop-place : goal.invariant-loop-place
invariant-loop-place l = (length l.inputs.items ≡ l.place) × ((job : ℕ) → job < l.place → AreAscending 0 (inputs_of (lists l.inputs.items) job) job)
