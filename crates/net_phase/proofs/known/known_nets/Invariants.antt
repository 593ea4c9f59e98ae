use Rattle.std.proofs.Common.{◌≡◌, length}
use Rattle.net_phase.specs.Reading.{nets_of}
use Rattle.net_phase.proofs.Knowing.{AreKnownTo}
use Rattle.net_phase.proofs.known.known_nets.Given as goal

abbrev pub invariant-loop : goal.invariant-loop
invariant-loop l = length l.known.items ≡ l.counter

abbrev pub invariant-loop-cell : goal.invariant-loop-cell
invariant-loop-cell l = AreKnownTo l.design l.nets l.cell-index (nets_of l.known.items)
