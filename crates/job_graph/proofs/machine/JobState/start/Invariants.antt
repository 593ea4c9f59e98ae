use Rattle.std.proofs.Common.{◌≡◌, take, replicate, None, false}
use Rattle.job_graph.specs.Graph.{lists}
use Rattle.job_graph.proofs.machine.JobState.start.Given as goal

abbrev pub invariant-loop-job : goal.invariant-loop-job
invariant-loop-job l = record {
  awaits : lists l.awaits.items ≡ take l.job l.graph;
  claimed : l.claimed.items ≡ replicate l.job None;
  published : l.published.items ≡ replicate l.job false;
}
