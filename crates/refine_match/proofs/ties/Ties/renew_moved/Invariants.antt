use Rattle.refine_match.specs.Ties.{AreRenewed}
use Rattle.refine_match.proofs.ties.Ties.renew_moved.Given as goal

abbrev pub invariant-loop-k : goal.invariant-loop-k
invariant-loop-k l = AreRenewed l.fn.self l.self l.graph l.classes l.from l.k
