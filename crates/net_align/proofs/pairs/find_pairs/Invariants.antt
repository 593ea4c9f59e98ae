use Rattle.net_align.specs.Paired.{ArePairsBelow, are_compared}
use Rattle.net_align.proofs.pairs.find_pairs.Given as goal

abbrev pub invariant-loop-a : goal.invariant-loop-a
invariant-loop-a l = ArePairsBelow l.of (are_compared l.top l.marks.left_reached.now l.marks.left_holds.now l.marks.right_reached.now l.marks.right_holds.now) l.a l.lefts.items l.rights.items
