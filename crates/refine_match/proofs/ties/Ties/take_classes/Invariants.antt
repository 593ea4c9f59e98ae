use Rattle.refine_match.specs.Ties.{AreTaken}
use Rattle.refine_match.proofs.ties.Ties.take_classes.Given as goal

abbrev pub invariant-loop-k : goal.invariant-loop-k
invariant-loop-k l = AreTaken l.fn.self l.self l.graph l.classes l.from l.k
