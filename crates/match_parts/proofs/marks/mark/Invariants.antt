use Rattle.match_parts.specs.Marks.{AreMarkedOf}
use Rattle.match_parts.proofs.marks.mark.Given as goal

abbrev pub invariant-loop-i : goal.invariant-loop-i
invariant-loop-i l = AreMarkedOf l.numbers l.i l.marks
