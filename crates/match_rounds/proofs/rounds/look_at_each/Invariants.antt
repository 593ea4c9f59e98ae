use Rattle.std.proofs.Common.{◌≡◌}
use Rattle.match_graph.specs.Graph.{left_of, nodes_of}
use Rattle.match_rounds.specs.Classes.{IsGrown, IsPartition, KeepsFresh}
use Rattle.match_rounds.specs.Members.{start_at}
use Rattle.match_rounds.specs.Rounds.{ArePartedBySpans}
use Rattle.match_rounds.proofs.rounds.look_at_each.Given as goal

abbrev pub invariant-loop-j : goal.invariant-loop-j
invariant-loop-j l =
    (l.from ≡ start_at l.ends l.j) × IsPartition l.classes (left_of l.graph) (nodes_of l.graph)
    × ArePartedBySpans l.graph l.fn.classes l.classes l.members l.ends l.j (nodes_of l.graph)
    × KeepsFresh l.fn.classes l.classes (nodes_of l.graph) × IsGrown l.fn.classes l.classes
