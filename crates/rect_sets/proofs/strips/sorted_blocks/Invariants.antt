use Rattle.std.proofs.Common.{pos, ◌-ℤ◌}
use Rattle.std.specs.Prelude.{unsigned_abs}
use Rattle.rect_sets.specs.Blocks.{SweepState}
use Rattle.rect_sets.proofs.strips.sorted_blocks.Given as goal

abbrev pub invariant-strips : goal.invariant-strips
invariant-strips l = SweepState l.op l.edges l.y l.at l.active.items l.opens.items l.closed.items

abbrev pub decreases-strips : goal.decreases-strips
decreases-strips l = unsigned_abs (pos 9223372036854775808 -ℤ l.y)
