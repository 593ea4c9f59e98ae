use Rattle.std.proofs.Common.{length}
use Rattle.rule_stages.proofs.order.+deepest.Given as goal

abbrev pub decreases-deepest : goal.decreases-deepest
decreases-deepest l = length l.depths.now
