use Rattle.match_parts.specs.Marks.{AreUnset}
use Rattle.match_parts.proofs.marks.clear.Given as goal

abbrev pub invariant-loop-mark : goal.invariant-loop-mark
invariant-loop-mark l = AreUnset l.mark-index l.marks
