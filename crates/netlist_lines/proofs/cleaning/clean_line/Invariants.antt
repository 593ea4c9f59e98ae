use Rattle.std.proofs.Common.{◌≡◌, length}
use Rattle.netlist_lines.specs.Cleaning.{has_comment, with_line}
use Rattle.netlist_lines.proofs.cleaning.clean_line.Given as goal

abbrev pub invariant-blanks : goal.invariant-blanks
invariant-blanks l = (with_line l.out.items l.rest ≡ with_line l.fn.out.items l.line) × (has_comment l.rest ≡ has_comment l.line) × (l.out ≡ l.fn.out)

abbrev pub decreases-blanks : goal.decreases-blanks
decreases-blanks l = length l.rest
