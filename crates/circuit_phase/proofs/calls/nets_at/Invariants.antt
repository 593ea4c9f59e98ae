use Rattle.std.proofs.Common.{◌≡◌, ◌+◌, get_or, map, take}
use Rattle.circuit_phase.proofs.calls.nets_at.Given as goal

abbrev pub invariant-loop-place : goal.invariant-loop-place
invariant-loop-place l = l.out.items ≡ map (λ b. get_or l.nets (l.start + b) 0) (take l.place-index l.places)
