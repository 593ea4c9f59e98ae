use Rattle.std.proofs.Common.{◌≡◌, length}
use Rattle.gate_phase.proofs.reads.marked_names.Given as goal

abbrev pub invariant-loop-name : goal.invariant-loop-name
invariant-loop-name l = length l.marks.items ≡ l.count
