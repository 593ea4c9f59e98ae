use Rattle.std.proofs.Common.{◌≡◌, map, take}
use Rattle.circuit_phase.specs.Drawn.{base_in}
use Rattle.circuit_phase.specs.Names.{folded_bases}
use Rattle.circuit_phase.proofs.drawn.bases_of.Given as goal

abbrev pub invariant-loop-net : goal.invariant-loop-net
invariant-loop-net l = folded_bases l.bases.items ≡ map (base_in l.names) (take l.net-index l.nets)
