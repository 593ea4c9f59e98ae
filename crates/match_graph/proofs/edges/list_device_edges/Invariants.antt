use Rattle.std.proofs.Common.{◌≡◌, ◌+◌, ◌++◌, take}
use Rattle.net_model.specs.Rows.{plain_circuit}
use Rattle.match_graph.specs.Edges.{device_edges, edges_from}
use Rattle.match_graph.proofs.edges.list_device_edges.Given as goal

abbrev pub invariant-loop-k : goal.invariant-loop-k
invariant-loop-k l = l.edges.items ≡ l.fn.edges.items ++ edges_from (device_edges l.sizes.first) (l.sizes.first + l.sizes.nets) (take l.k (plain_circuit l.circuit).devices)
