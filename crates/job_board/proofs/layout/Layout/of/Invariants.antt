use Rattle.std.proofs.Common.{◌≡◌, ◌<◌, ◌≤◌, ℕ, map, length, slice_index}
use Rattle.job_graph.specs.Graph.{inputs_of}
use Rattle.job_board.specs.Slots.{first, own_slot}
use Rattle.job_board.specs.Layout.{edges_at, edge_to}
use Rattle.job_board.proofs.Waiting.{waiting}
use Rattle.job_board.proofs.layout.Layout.of.Given as goal

abbrev pub invariant-loop-job : goal.invariant-loop-job
invariant-loop-job l = record {
  edge_count : length l.edges.items ≡ length l.graph;
  own_count : length l.owns.items ≡ l.job;
  edges : (job : ℕ) → edges_at l.edges.items job ≡ map (edge_to l.graph job) (waiting l.graph l.job job);
  owns : (job : ℕ) → job < l.job → slice_index l.owns.items job ≡ own_slot l.graph job;
  slots : l.slots ≡ first l.graph l.job;
  most : (job : ℕ) → job < l.job → length (inputs_of l.graph job) ≤ l.most;
}
