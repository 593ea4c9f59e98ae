use Rattle.std.proofs.Common.{◌<◌, ℕ, slice_index}
use Rattle.match_graph.specs.Graph.{left_of}
use Rattle.refine_match.proofs.pairings.mate_of.Given as goal

abbrev pub invariant-loop-other : goal.invariant-loop-other
invariant-loop-other l = (k : ℕ) → k < l.other-index → slice_index l.other-items k < left_of l.graph
