use Rattle.std.proofs.Common.{map, take}
use Rattle.net_model.specs.Rows.{plain_circuit}
use Rattle.match_graph.specs.contracts.kinds.OwnPartialEq.TheImpl.{eq-value}
use Rattle.match_graph.specs.Kinds.{Adds, call_own}
use Rattle.match_graph.proofs.kinds.Kinds.add_calls.Given as goal

abbrev pub invariant-loop-k : goal.invariant-loop-k
invariant-loop-k l = Adds eq-value.it l.fn.self l.self (map call_own (take l.k (plain_circuit l.circuit).calls))
