use Rattle.std.proofs.Common.{◌≡◌, length}
use Rattle.net_align.proofs.flatten.no_circuits.Given as goal

abbrev pub invariant-loop : goal.invariant-loop
invariant-loop l = length l.flats.items ≡ l.counter
