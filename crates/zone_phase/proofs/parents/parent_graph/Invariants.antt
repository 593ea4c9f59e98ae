use Rattle.job_graph.specs.Graph.{lists}
use Rattle.zone_phase.specs.Graph.{AreInputsTo}
use Rattle.zone_phase.specs.Uses.{lists_of, uses_of}
use Rattle.zone_phase.proofs.parents.parent_graph.Given as goal

abbrev pub invariant-loop-job : goal.invariant-loop-job
invariant-loop-job l = AreInputsTo l.design (uses_of (lists_of l.uses)) l.job (lists l.inputs.items)
