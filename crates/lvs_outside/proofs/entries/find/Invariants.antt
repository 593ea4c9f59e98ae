use Rattle.lvs_outside.proofs.FirstEntry.{Skips}
use Rattle.lvs_outside.proofs.entries.find.Given as goal

abbrev pub invariant-loop-number : goal.invariant-loop-number
invariant-loop-number l = Skips l.files l.path l.number
