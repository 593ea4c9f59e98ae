use Rattle.std.proofs.Common.{◌≡◌, ◌++◌, drop}
use Rattle.flat_layout.specs.Circuits.{both, true_places}
use Rattle.circuit_phase.proofs.drawn.pin_nets.Given as goal

abbrev pub invariant-loop-net : goal.invariant-loop-net
invariant-loop-net l = l.nets.items ++ true_places l.net (drop l.net (both l.pins.pin.items l.drawn)) ≡ true_places 0 (both l.pins.pin.items l.drawn)
