use Rattle.std.proofs.Common.{◌-◌, length}
use Rattle.rect_sets.specs.Actives.{BeginSoFar}
use Rattle.rect_sets.proofs.active.insert_all.Given as goal

abbrev pub decreases-loop-at : goal.decreases-loop-at
decreases-loop-at l = length l.edges - l.at

abbrev pub invariant-loop-at : goal.invariant-loop-at
invariant-loop-at l = BeginSoFar l.y l.fn.active.items l.edges l.fn.at l.active.items l.at
