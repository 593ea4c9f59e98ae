use Rattle.layer_phase.proofs.Needing.{AreSeenTo}
use Rattle.layer_phase.proofs.groups.seen_names.Given as goal

abbrev pub invariant-loop-k : goal.invariant-loop-k
invariant-loop-k l = AreSeenTo l.names l.marks l.k l.seen.items
