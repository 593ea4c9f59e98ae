use Rattle.std.proofs.Common.{length}
use Rattle.net_phase.proofs.indexes.+greatest.Given as goal

abbrev pub decreases-greatest : goal.decreases-greatest
decreases-greatest l = length l.reaches.now
