use Rattle.std.proofs.Common.{◌≡◌, replicate, None}
use Rattle.job_graph.proofs.found.Found.nothing.Given as goal

abbrev pub invariant-loop : goal.invariant-loop
invariant-loop g l = l.values.items ≡ replicate l.counter None
