use Rattle.std.proofs.Common.{◌≡◌, ◌++◌, length}
use Rattle.view_words.specs.Words.{quoted, spelled}
use Rattle.view_words.proofs.words.push_quoted.Given as goal

abbrev pub invariant-bytes : goal.invariant-bytes
invariant-bytes l = l.out.items ++ spelled quoted l.rest ≡ l.initial.out.items ++ spelled quoted l.name

abbrev pub decreases-bytes : goal.decreases-bytes
decreases-bytes l = length l.rest
