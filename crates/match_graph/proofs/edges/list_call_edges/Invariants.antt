use Rattle.std.proofs.Common.{◌≡◌, ◌+◌, ◌++◌, take}
use Rattle.net_model.specs.Rows.{plain_circuit}
use Rattle.match_types.specs.Plain.{plain_side}
use Rattle.match_types.specs.Children.{children_of}
use Rattle.match_graph.specs.Edges.{call_edges, edges_from}
use Rattle.match_graph.proofs.edges.list_call_edges.Given as goal

abbrev pub invariant-loop-k : goal.invariant-loop-k
invariant-loop-k l = l.edges.items ≡ l.fn.edges.items ++ edges_from (call_edges (children_of l.children) (plain_side l.side) l.sizes.first) (l.sizes.first + l.sizes.nets + l.sizes.devices) (take l.k (plain_circuit l.circuit).calls)
