use Rattle.deep_tables.specs.Gates.{gates_of}
use Rattle.circuit_phase.proofs.Gating.{AreGatedTo}
use Rattle.circuit_phase.proofs.gated.gated_cells.Given as goal

abbrev pub invariant-loop-cell : goal.invariant-loop-cell
invariant-loop-cell l = AreGatedTo l.design (gates_of l.gates) l.cell-index l.marks.items
