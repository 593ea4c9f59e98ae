use Rattle.std.proofs.Common.{All}
use Rattle.job_graph.specs.Sharing.{IsRight}
use Rattle.job_graph.proofs.run.work_share.Given as goal

abbrev pub invariant-loop : goal.invariant-loop
invariant-loop g l = All (IsRight g.P.Out.Defined.is_defined (g.P.Phase.key l.phase) (g.P.Phase.graph l.phase)) l.done.items
