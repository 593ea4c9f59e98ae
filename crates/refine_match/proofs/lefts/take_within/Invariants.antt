use Rattle.refine_match.specs.Ties.{AreWithin}
use Rattle.refine_match.proofs.lefts.take_within.Given as goal

abbrev pub invariant-loop-i : goal.invariant-loop-i
invariant-loop-i l = AreWithin l.found.items l.nodes l.i l.from l.to
