use Rattle.job_graph.specs.Graph.{lists}
use Rattle.net_phase.proofs.Graphing.{AreFrom}
use Rattle.net_phase.proofs.graph.marks_below.Given as goal

abbrev pub invariant-loop-place : goal.invariant-loop-place
invariant-loop-place l = AreFrom l.design l.jobs (lists l.graph) l.job l.place-index l.marks.items
