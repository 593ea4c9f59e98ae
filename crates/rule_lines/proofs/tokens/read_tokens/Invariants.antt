use Rattle.std.proofs.Common.{◌≡◌, ◌++◌, length}
use Rattle.rule_lines.specs.Tokens.{tokens_of}
use Rattle.rule_lines.specs.Seen.{seen_all}
use Rattle.rule_lines.proofs.tokens.read_tokens.Given as goal

abbrev pub invariant-loop-rest : goal.invariant-loop-rest
invariant-loop-rest l = seen_all l.out.items ++ tokens_of l.rest ≡ tokens_of l.line

abbrev pub decreases-loop-rest : goal.decreases-loop-rest
decreases-loop-rest l = length l.rest
