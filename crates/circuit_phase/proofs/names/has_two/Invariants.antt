use Rattle.std.proofs.Common.{◌≡◌, drop}
use Rattle.flat_layout.specs.Names.{has_two}
use Rattle.circuit_phase.proofs.names.has_two.Given as goal

abbrev pub invariant-loop-i : goal.invariant-loop-i
invariant-loop-i l = has_two l.name ≡ has_two (drop l.i l.name)
