use Rattle.std.proofs.Common.{length}
use Rattle.rule_text.proofs.devices.+entry.Given as goal

abbrev pub decreases-entry : goal.decreases-entry
decreases-entry l = length l.tokens.now
