use Rattle.std.proofs.Common.{ℕ, ◌<◌, slice_index}
use Rattle.job_graph.specs.Sharing.{AreFound, IsFound, KeepsFound}
use Rattle.job_graph.proofs.run.work_rest.Given as goal

abbrev pub invariant-loop-job : goal.invariant-loop-job
invariant-loop-job g l = record {
  right : AreFound g.P.Out.Defined.is_defined (g.P.Phase.key l.phase) (g.P.Phase.graph l.phase) l.found;
  keeps : KeepsFound l.fn.found l.found;
  all : (k : ℕ) → k < l.job-index → IsFound l.found (slice_index l.level k);
}
