use Rattle.std.proofs.Common.{◌-◌}
use Rattle.tile_index.proofs.tree.+grow.Given as goal

abbrev pub decreases-grow : goal.decreases-grow
decreases-grow l = l.to - l.from
