use Rattle.std.proofs.Common.{◌≡◌, length}
use Rattle.gate_phase.specs.Indexes.{AreIndexes}
use Rattle.gate_phase.proofs.indexes.cell_indexes.Given as goal

abbrev pub invariant-loop-name : goal.invariant-loop-name
invariant-loop-name l = record { long : length l.indexes.items ≡ l.name; right : AreIndexes l.layers l.cell l.indexes.items }
