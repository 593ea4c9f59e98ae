use Rattle.std.proofs.Common.{◌≡◌, ◌++◌, drop}
use Rattle.flat_layout.specs.Circuits.{true_places}
use Rattle.circuit_phase.proofs.drawn.drawn_nets.Given as goal

abbrev pub invariant-loop-net : goal.invariant-loop-net
invariant-loop-net l = l.nets.items ++ true_places l.net (drop l.net l.drawn) ≡ true_places 0 l.drawn
