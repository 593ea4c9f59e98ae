use Rattle.std.proofs.Common.{◌≡◌, map, take}
use Rattle.circuit_phase.specs.Names.{folded_names}
use Rattle.circuit_phase.proofs.Numbers.{name_at}
use Rattle.circuit_phase.proofs.circuits.cell_names.Given as goal

abbrev pub invariant-loop-cell : goal.invariant-loop-cell
invariant-loop-cell l = folded_names l.names.items ≡ map (name_at l.design) (take l.cell-index l.cells)
