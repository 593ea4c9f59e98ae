use Rattle.std.proofs.Common.{◌≡◌, ◌++◌, length}
use Rattle.std.specs.Vec.Iter.{into_iter_items, into_iter_len}
use Rattle.gate_phase.proofs.list.push_all.Given as goal

abbrev pub invariant-loop-gate : goal.invariant-loop-gate
invariant-loop-gate l = record {
  whole : l.yielded ++ into_iter_items l.gate-iterator ≡ into_iter_items l.initial.gate-iterator;
  left : into_iter_len l.gate-iterator ≡ length (into_iter_items l.gate-iterator);
  gates : l.gates.items ≡ l.fn.gates.items ++ l.yielded;
}
