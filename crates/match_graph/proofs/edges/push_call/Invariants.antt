use Rattle.std.proofs.Common.{◌≡◌, ◌++◌}
use Rattle.match_graph.specs.Edges.{pin_edges, now_of}
use Rattle.match_graph.proofs.edges.push_call.Given as goal

abbrev pub invariant-loop-i : goal.invariant-loop-i
invariant-loop-i l = l.edges.items ≡ l.fn.edges.items ++ pin_edges l.first l.owner (now_of l.pins) l.nets l.i
