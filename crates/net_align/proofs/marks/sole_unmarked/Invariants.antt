use Rattle.net_align.specs.Marks.{SoleBelow}
use Rattle.net_align.proofs.marks.sole_unmarked.Given as goal

abbrev pub invariant-loop-i : goal.invariant-loop-i
invariant-loop-i l = SoleBelow l.marks l.i l.found
