use Rattle.std.proofs.Common.{length, ◌-◌}
use Rattle.rect_sets.proofs.Striping.{AreAddedTo}
use Rattle.rect_sets.proofs.parts.push_parts.Given as goal

abbrev pub invariant-loop-i : goal.invariant-loop-i
invariant-loop-i l = AreAddedTo l.lines l.fn.parts.items l.parts.items l.fn.rect l.i l.rest

abbrev pub decreases-loop-i : goal.decreases-loop-i
decreases-loop-i l = length l.lines.at.items - l.i
