use Rattle.std.proofs.Common.{◌≡◌, ◌<◌, ◌≤◌, ℕ, length}
use Rattle.gate_phase.specs.Reads.{AreClosed, IsMarked, IsOfDevice}
use Rattle.gate_phase.proofs.reads.names_read.Given as goal

abbrev pub invariant-loop-i : goal.invariant-loop-i
invariant-loop-i l = record {
  in_names : l.i ≤ length l.names;
  count : length l.marks.items ≡ length l.names;
  roots : (i : ℕ) → IsOfDevice l.device i → i < length l.names → IsMarked l.marks.items i;
  closed : AreClosed l.names l.i l.marks.items;
}

abbrev pub decreases-loop-i : goal.decreases-loop-i
decreases-loop-i l = l.i
