use Rattle.std.proofs.Common.{length}
use Rattle.lvs_outside.specs.Store.{counted}
use Rattle.lvs_outside.proofs.WrittenFiles.{SoFar}
use Rattle.lvs_outside.proofs.loops.write_whole.Given as goal

abbrev pub invariant-loop-rest : goal.invariant-loop-rest
invariant-loop-rest g l = SoFar (counted (g.D.Depot.state l.fn.depot)) (counted (g.D.Depot.state l.depot)) l.fn.text l.rest

abbrev pub decreases-loop-rest : goal.decreases-loop-rest
decreases-loop-rest g l = length l.rest
