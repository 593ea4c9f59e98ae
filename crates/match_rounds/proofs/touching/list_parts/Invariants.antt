use Rattle.std.proofs.Common.{◌≤◌, ◌-◌}
use Rattle.match_rounds.specs.Touching.{AreParts}
use Rattle.match_rounds.proofs.touching.list_parts.Given as goal

abbrev pub invariant-loop-i : goal.invariant-loop-i
invariant-loop-i l = (l.from ≤ l.i) × (l.i ≤ l.to) × AreParts l.classes l.touched l.from l.i l.parts.items

abbrev pub decreases-loop-i : goal.decreases-loop-i
decreases-loop-i l = l.to - l.i
