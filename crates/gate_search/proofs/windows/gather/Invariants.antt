use Rattle.std.proofs.Common.{◌-◌, ◌^◌}
use Rattle.gate_shapes.specs.Sets.{area}
use Rattle.gate_search.proofs.Rounds.{IsRound}
use Rattle.gate_search.proofs.windows.gather.Given as goal

abbrev pub invariant-rounds : goal.invariant-rounds
invariant-rounds g l = IsRound (g.L.GateLayer.keeps l.layer) l.seeds l.found l.fresh

abbrev pub decreases-rounds : goal.decreases-rounds
decreases-rounds g l = 2 ^ 82 - area l.found
