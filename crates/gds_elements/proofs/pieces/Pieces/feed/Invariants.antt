use Rattle.std.proofs.Common.{length}
use Rattle.gds_elements.proofs.PieceLemmas.{Fronted}
use Rattle.gds_elements.proofs.pieces.Pieces.feed.Given as goal

abbrev pub invariant-loop-rest : goal.invariant-loop-rest
invariant-loop-rest l = Fronted l.piece l.rest l.fn.self l.self

abbrev pub decreases-loop-rest : goal.decreases-loop-rest
decreases-loop-rest l = length l.rest
