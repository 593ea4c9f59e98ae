use Rattle.std.proofs.Common.{length}
use Rattle.rule_layers.proofs.margin.+greatest.Given as goal

abbrev pub decreases-greatest : goal.decreases-greatest
decreases-greatest l = length l.numbers.now
