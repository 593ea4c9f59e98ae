use Rattle.pin_phase.proofs.Twice.{AreTwiceTo}
use Rattle.pin_phase.proofs.links.mark_twice.Given as goal

abbrev pub invariant-loop-net : goal.invariant-loop-net
invariant-loop-net l = AreTwiceTo l.initial.marks l.net_of l.net-index l.seen.items l.marks
