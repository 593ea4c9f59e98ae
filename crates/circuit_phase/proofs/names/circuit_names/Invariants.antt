use Rattle.std.proofs.Common.{◌≡◌, ◌++◌, ◌+◌, [], drop}
use Rattle.flat_layout.specs.Names.{circuit_names}
use Rattle.circuit_phase.specs.Names.{folded_names}
use Rattle.circuit_phase.proofs.names.circuit_names.Given as goal

abbrev pub invariant-loop-i : goal.invariant-loop-i
invariant-loop-i l = l.names.items ++ circuit_names l.earlier (l.i + 1) (drop l.i (folded_names l.cells)) ≡ circuit_names [] 1 (folded_names l.cells)
