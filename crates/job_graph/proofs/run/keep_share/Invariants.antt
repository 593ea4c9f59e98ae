use Rattle.std.proofs.Common.{All}
use Rattle.job_graph.specs.Sharing.{AreFound, IsRight, KeepsFound}
use Rattle.job_graph.proofs.run.keep_share.Given as goal

abbrev pub invariant-loop-job : goal.invariant-loop-job
invariant-loop-job g l = record {
  right : AreFound g.P.Out.Defined.is_defined (g.P.Phase.key l.phase) (g.P.Phase.graph l.phase) l.found;
  keeps : KeepsFound l.fn.found l.found;
  left : All (IsRight g.P.Out.Defined.is_defined (g.P.Phase.key l.phase) (g.P.Phase.graph l.phase)) l.job-iterator.rest.items;
}
