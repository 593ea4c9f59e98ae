use Rattle.std.proofs.Common.{◌≡◌, take}
use Rattle.net_phase.proofs.indexes.spans_of.Given as goal
use Rattle.net_phase.specs.Indexes.{spans_of}

abbrev pub invariant-loop-k : goal.invariant-loop-k
invariant-loop-k l = l.spans.items ≡ spans_of l.reach l.design (take l.k l.elements)
