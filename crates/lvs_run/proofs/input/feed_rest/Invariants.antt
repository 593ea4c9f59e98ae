use Rattle.std.proofs.Common.{◌≡◌, ◌-◌, length}
use Rattle.lvs_outside.specs.Loops.{Follows}
use Rattle.lvs_run.proofs.input.feed_rest.Given as goal

abbrev pub invariant-loop-total : goal.invariant-loop-total
invariant-loop-total g l = (l.total ≡ length l.reader.fed) × Follows (g.D.Depot.state l.fn.depot) (g.D.Depot.state l.depot) l.reader.fed

abbrev pub decreases-loop-total : goal.decreases-loop-total
decreases-loop-total g l = 268435457 - l.total
