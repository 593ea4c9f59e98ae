use Rattle.std.proofs.Common.{◌≡◌, ◌++◌, ◌+◌, [], drop}
use Rattle.flat_layout.specs.Names.{net_names}
use Rattle.circuit_phase.specs.Names.{folded_bases}
use Rattle.circuit_phase.proofs.names.net_names.Given as goal

abbrev pub invariant-loop-i : goal.invariant-loop-i
invariant-loop-i l = l.names.items ++ net_names l.earlier (l.i + 1) (drop l.i (folded_bases l.bases)) ≡ net_names [] 1 (folded_bases l.bases)
