use Rattle.std.proofs.Common.{length}
use Rattle.rule_stages.proofs.order.+select_at.Given as goal

abbrev pub decreases-select_at : goal.decreases-select_at
decreases-select_at l = length l.selects.now
