use Rattle.std.proofs.Common.{◌≡◌, false, take}
use Rattle.circuit_phase.specs.Gated.{has_marked}
use Rattle.circuit_phase.proofs.gated.has_marked.Given as goal

abbrev pub invariant-loop-place : goal.invariant-loop-place
invariant-loop-place l = has_marked l.marks (take l.place-index l.places) ≡ false
