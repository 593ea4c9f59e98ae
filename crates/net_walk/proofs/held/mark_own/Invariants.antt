use Rattle.net_walk.proofs.held.mark_own.Given as goal
use Rattle.net_walk.specs.Held.{AddsMarks, IsNumberedAt}

abbrev pub invariant-loop-r : goal.invariant-loop-r
invariant-loop-r l = AddsMarks (IsNumberedAt l.net_of l.at l.r) l.fn.marks l.marks
