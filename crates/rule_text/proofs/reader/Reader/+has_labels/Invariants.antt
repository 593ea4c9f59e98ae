use Rattle.std.proofs.Common.{length}
use Rattle.rule_text.proofs.reader.Reader.+has_labels.Given as goal

abbrev pub decreases-has_labels : goal.decreases-has_labels
decreases-has_labels l = length l.words.now
