use Rattle.std.proofs.Common.{◌≡◌, take}
use Rattle.std.specs.List.{filter}
use Rattle.circuit_phase.specs.Gated.{is_circuit_cell}
use Rattle.circuit_phase.proofs.ordered.circuit_cells.Given as goal

abbrev pub invariant-loop-cell : goal.invariant-loop-cell
invariant-loop-cell l = l.cells.items ≡ filter (is_circuit_cell l.design.top l.marks.items) (take l.cell-index l.design.order)
