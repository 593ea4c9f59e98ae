use Rattle.std.proofs.Common.{◌≡◌, length}
use Rattle.net_align.proofs.held.no_pins.Given as goal

abbrev pub invariant-loop : goal.invariant-loop
invariant-loop l = length l.held.items ≡ l.counter
