use Rattle.std.proofs.Common.{◌≡◌, take}
use Rattle.job_graph.specs.Graph.{lists}
use Rattle.job_board.proofs.layout.copied.Given as goal

abbrev pub invariant-loop-job : goal.invariant-loop-job
invariant-loop-job l = lists l.inputs.items ≡ take l.job l.graph
