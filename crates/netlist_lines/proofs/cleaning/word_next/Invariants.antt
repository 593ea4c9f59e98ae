use Rattle.std.proofs.Common.{◌≡◌, length}
use Rattle.netlist_lines.specs.Cleaning.{word_next}
use Rattle.netlist_lines.proofs.cleaning.word_next.Given as goal

abbrev pub invariant-blanks : goal.invariant-blanks
invariant-blanks l = word_next l.rest ≡ word_next l.bytes

abbrev pub decreases-blanks : goal.decreases-blanks
decreases-blanks l = length l.rest
