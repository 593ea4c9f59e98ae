use Rattle.std.proofs.Common.{◌≡◌, ◌++◌, length}
use Rattle.view_words.specs.Words.{octal, spelled}
use Rattle.view_words.proofs.words.push_octal.Given as goal

abbrev pub invariant-bytes : goal.invariant-bytes
invariant-bytes l = l.out.items ++ spelled octal l.rest ≡ l.initial.out.items ++ spelled octal l.name

abbrev pub decreases-bytes : goal.decreases-bytes
decreases-bytes l = length l.rest
