use Rattle.std.proofs.Common.{map}
use Rattle.match_laws.specs.Circuits.{numbers_from}
use Rattle.net_model.specs.Rows.{plain_circuit}
use Rattle.match_graph.specs.contracts.kinds.OwnPartialEq.TheImpl.{eq-value}
use Rattle.match_graph.specs.Kinds.{Adds, name_in, net_own}
use Rattle.match_graph.proofs.kinds.Kinds.add_nets.Given as goal

abbrev pub invariant-loop-n : goal.invariant-loop-n
invariant-loop-n l = Adds eq-value.it l.fn.self l.self (map (net_own (name_in l.names) (plain_circuit l.circuit)) (numbers_from 0 l.n))
