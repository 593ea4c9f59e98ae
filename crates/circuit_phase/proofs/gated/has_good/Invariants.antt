use Rattle.std.proofs.Common.{◌≡◌, false, take}
use Rattle.circuit_phase.specs.Gated.{has_good}
use Rattle.circuit_phase.proofs.gated.has_good.Given as goal

abbrev pub invariant-loop-gate : goal.invariant-loop-gate
invariant-loop-gate l = has_good (take l.gate-index l.gates) ≡ false
