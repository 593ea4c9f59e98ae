use Rattle.lvs_outside.proofs.FirstLent.{Skips}
use Rattle.lvs_outside.proofs.lent.find_lent.Given as goal

abbrev pub invariant-loop-number : goal.invariant-loop-number
invariant-loop-number l = Skips l.files l.path l.number
