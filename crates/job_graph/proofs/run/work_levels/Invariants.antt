use Rattle.job_graph.specs.Graph.{lists}
use Rattle.job_graph.specs.Machine.{IsStateOf, machine_of}
use Rattle.job_graph.specs.Sharing.{AreFound}
use Rattle.job_graph.proofs.Booked.{IsBooked}
use Rattle.job_graph.proofs.Finding.{BelowFound}
use Rattle.job_graph.proofs.run.work_levels.Given as goal

abbrev pub invariant-loop-level : goal.invariant-loop-level
invariant-loop-level g l = record {
  right : AreFound g.P.Out.Defined.is_defined (g.P.Phase.key l.phase) (g.P.Phase.graph l.phase) l.found;
  below : BelowFound (lists l.levels) l.found l.level-index;
  state : IsStateOf (g.P.Phase.graph l.phase) l.book;
  booked : IsBooked (g.P.Phase.graph l.phase) (lists l.levels) l.level-index (machine_of l.book);
}
