use Rattle.std.proofs.Common.{◌≡◌, length}
use Rattle.gate_phase.specs.Indexes.{AreAllIndexes, index_lists}
use Rattle.gate_phase.proofs.indexes.all_indexes.Given as goal

abbrev pub invariant-loop-cell : goal.invariant-loop-cell
invariant-loop-cell l = record { long : length l.indexes.items ≡ length l.design.cells; right : AreAllIndexes l.layers (index_lists l.indexes.items) }
