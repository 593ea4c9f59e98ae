use Rattle.std.proofs.Common.{◌≡◌, ◌≤◌, length, take}
use Rattle.gds_elements.specs.Data.{trimmed}
use Rattle.gds_elements.proofs.data.trimmed.Given as goal

abbrev pub invariant-loop-end : goal.invariant-loop-end
invariant-loop-end l = (l.end ≤ length l.body) × (trimmed (take l.end l.body) ≡ trimmed l.body)

abbrev pub decreases-loop-end : goal.decreases-loop-end
decreases-loop-end l = l.end
