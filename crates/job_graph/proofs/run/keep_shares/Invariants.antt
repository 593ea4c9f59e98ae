use Rattle.std.proofs.Common.{All, IfOk}
use Rattle.job_graph.specs.Sharing.{AreFound, IsRight, KeepsFound}
use Rattle.job_graph.proofs.run.keep_shares.Given as goal

abbrev pub invariant-loop-share : goal.invariant-loop-share
invariant-loop-share g l = record {
  right : AreFound g.P.Out.Defined.is_defined (g.P.Phase.key l.phase) (g.P.Phase.graph l.phase) l.found;
  keeps : KeepsFound l.fn.found l.found;
  left : All (λ s. IfOk s (λ v. All (IsRight g.P.Out.Defined.is_defined (g.P.Phase.key l.phase) (g.P.Phase.graph l.phase)) v.items)) l.share-iterator.rest.items;
}
