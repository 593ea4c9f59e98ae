use Rattle.std.proofs.Common.{◌≡◌, ◌++◌, length}
use Rattle.script_lexis.specs.Lines.{joined, joined_of}
use Rattle.script_lexis.specs.Seen.{seen_all}
use Rattle.script_lexis.proofs.lines.join_lines.Given as goal

abbrev pub invariant-rest : goal.invariant-rest
invariant-rest l = seen_all l.out.items ++ joined l.is_open (seen_all l.rest) ≡ joined_of (seen_all l.tokens)

abbrev pub decreases-rest : goal.decreases-rest
decreases-rest l = length l.rest
