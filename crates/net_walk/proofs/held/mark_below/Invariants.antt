use Rattle.net_walk.proofs.Holding.{IsNumberedFirst}
use Rattle.net_walk.proofs.held.mark_below.Given as goal
use Rattle.net_walk.specs.Held.{AddsMarks}

abbrev pub invariant-loop-b : goal.invariant-loop-b
invariant-loop-b l = AddsMarks (IsNumberedFirst l.below l.b-index l.net_of l.at) l.fn.marks l.marks
