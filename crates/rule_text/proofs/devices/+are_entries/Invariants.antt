use Rattle.std.proofs.Common.{length}
use Rattle.rule_text.proofs.devices.+are_entries.Given as goal

abbrev pub decreases-are_entries : goal.decreases-are_entries
decreases-are_entries l = length l.tokens.now
