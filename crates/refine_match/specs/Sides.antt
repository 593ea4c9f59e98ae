-- Two circuits that are matched, with what their candidates are found by.
use Rattle.std.specs.Prelude.{ℕ}
use Rattle.match_graph.specs.Graph.{IsGraph}
use Rattle.refine_match.specs.Candidates.{HaveNets, rank_at}
use Rattle.refine_match.specs.Namesakes.{AreNamesakes}
use Rattle.refine_match.specs.declared.candidates.Sides.{Sides}

-- the graph has the nets of the circuits, and the right nets are those of the left ones' names
pub record AreSides (s : Sides) : Type 0 where
  pub graph : IsGraph s.graph.now
  pub nets : HaveNets s.graph.now s.left.now s.right.now
  pub namesakes : AreNamesakes s.left.now s.right.now s.namesakes.now

-- the rank of right node y as a candidate of left node x
abbrev pub rank_by : Sides → ℕ → ℕ → ℕ
rank_by s x y = rank_at s.graph.now s.left.now s.right.now x y
