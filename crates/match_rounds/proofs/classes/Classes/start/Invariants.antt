use Rattle.std.proofs.Common.{◌≡◌, ◌<◌, ℕ, true, take}
use Rattle.match_graph.specs.Graph.{left_of, nodes_of}
use Rattle.match_rounds.specs.Classes.{IsPartition, is_fresh}
use Rattle.match_rounds.specs.Start.{AreStarted}
use Rattle.match_rounds.proofs.classes.Classes.start.Given as goal

abbrev pub invariant-loop-a : goal.invariant-loop-a
invariant-loop-a l =
    IsPartition l.classes (left_of l.graph) (nodes_of l.graph) × AreStarted l.graph (take l.a-index l.guesses) l.classes
    × ((a : ℕ) → a < nodes_of l.graph → is_fresh l.classes a ≡ true)
