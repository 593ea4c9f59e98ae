use Rattle.std.proofs.Common.{◌≡◌, take}
use Rattle.std.specs.List.{flat_map}
use Rattle.match_graph.specs.Graph.{ends_at}
use Rattle.match_rounds.proofs.touching.list_touched.Given as goal

abbrev pub invariant-loop-i : goal.invariant-loop-i
invariant-loop-i l = l.touched.items ≡ flat_map (ends_at l.graph) (take l.i l.members)
