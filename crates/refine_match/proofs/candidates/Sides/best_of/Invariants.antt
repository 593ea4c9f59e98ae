use Rattle.refine_match.specs.Candidates.{IsBestBehind}
use Rattle.refine_match.specs.Sides.{rank_by}
use Rattle.refine_match.proofs.candidates.Sides.best_of.Given as goal

abbrev pub invariant-loop-other : goal.invariant-loop-other
invariant-loop-other l = IsBestBehind l.self.graph.now (rank_by l.self l.node) l.last l.nodes l.other-index l.best
