use Rattle.job_graph.specs.Graph.{AreAscending}
use Rattle.job_tests.proofs.graphs.span.Given as goal

abbrev pub invariant-loop-i : goal.invariant-loop-i
invariant-loop-i l = AreAscending 0 l.list.items l.i
