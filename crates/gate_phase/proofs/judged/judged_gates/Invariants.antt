use Rattle.std.proofs.Common.{◌≡◌, ◌++◌, length}
use Rattle.std.specs.Vec.Iter.{into_iter_items, into_iter_len}
use Rattle.gate_phase.specs.Judged.{AreGatesOf, IsGateOf}
use Rattle.gate_phase.specs.Terminals.{grounds_seen}
use Rattle.gate_phase.proofs.judged.judged_gates.Given as goal

abbrev pub invariant-loop-gate : goal.invariant-loop-gate
invariant-loop-gate g l = record {
  whole : l.yielded ++ into_iter_items l.gate-iterator ≡ into_iter_items l.initial.gate-iterator;
  left : into_iter_len l.gate-iterator ≡ length (into_iter_items l.gate-iterator);
  gates : AreGatesOf (IsGateOf (g.C.Cells.design l.at.cells.now) (g.C.Cells.wiring l.at.cells.now) (g.C.Cells.tables l.at.cells.now) l.at.device (grounds_seen l.at.grounds) l.number l.at.cell) l.yielded l.gates.items;
}
