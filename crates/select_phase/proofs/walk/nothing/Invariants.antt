use Rattle.std.proofs.Common.{◌≡◌, replicate, None}
use Rattle.select_phase.proofs.walk.nothing.Given as goal

abbrev pub invariant-loop : goal.invariant-loop
invariant-loop l = l.found.items ≡ replicate l.counter None
