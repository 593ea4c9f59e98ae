use Rattle.match_rounds.specs.Marks.{AreCleared}
use Rattle.match_rounds.proofs.marks.Marks.clear.Given as goal

abbrev pub invariant-loop-i : goal.invariant-loop-i
invariant-loop-i l = AreCleared l.fn.self l.self l.i
