use Rattle.std.proofs.Common.{◌-◌, length}
use Rattle.view_pairs.proofs.keys.Mates.pair.Given as goal

abbrev pub decreases-loop-i : goal.decreases-loop-i
decreases-loop-i l = length l.keys.items - l.i
