use Rattle.job_graph.specs.Graph.{lists}
use Rattle.job_graph.specs.Machine.{IsStateOf}
use Rattle.job_tests.proofs.board.machine_by_hand.Given as goal

abbrev pub invariant-loop-event : goal.invariant-loop-event
invariant-loop-event g l = IsStateOf (lists l.graph-inside.inputs.items) l.state
