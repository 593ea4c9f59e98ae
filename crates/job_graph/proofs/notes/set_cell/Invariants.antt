use Rattle.std.proofs.Common.{◌≡◌}
use Rattle.job_graph.proofs.notes.set_cell.Given as goal

abbrev pub invariant-loop : goal.invariant-loop
invariant-loop g l = l.left.value ≡ l.fn.value.value
