use Rattle.std.proofs.Common.{length}
use Rattle.rule_text.proofs.reader.Reader.+are_defined.Given as goal

abbrev pub decreases-are_defined : goal.decreases-are_defined
decreases-are_defined l = length l.words.now
