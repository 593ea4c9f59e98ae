use Rattle.job_graph.specs.Graph.{lists}
use Rattle.net_model.specs.Rows.{plain_netlist}
use Rattle.pair_jobs.specs.Jobs.{AreCalledBelow}
use Rattle.pair_jobs.proofs.jobs.pair_graph.Given as goal

abbrev pub invariant-loop-circuit : goal.invariant-loop-circuit
invariant-loop-circuit l = AreCalledBelow (plain_netlist l.left) l.circuit-index (lists l.inputs.items)
