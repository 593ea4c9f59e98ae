use Rattle.job_graph.specs.Graph.{lists}
use Rattle.net_phase.specs.Graph.{AreInputsTo}
use Rattle.net_phase.proofs.graph.below_graph.Given as goal

abbrev pub invariant-loop-job : goal.invariant-loop-job
invariant-loop-job l = AreInputsTo l.design l.job (lists l.graph.items)
