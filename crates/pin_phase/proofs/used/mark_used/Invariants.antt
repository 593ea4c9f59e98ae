use Rattle.pin_phase.proofs.Using.{AreUsedTo}
use Rattle.pin_phase.proofs.used.mark_used.Given as goal

abbrev pub invariant-loop-link : goal.invariant-loop-link
invariant-loop-link g l = AreUsedTo (g.R.Reads.value l.reads) l.links l.link-index l.initial.marks l.marks
