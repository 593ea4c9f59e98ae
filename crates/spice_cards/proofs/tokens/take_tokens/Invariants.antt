use Rattle.std.proofs.Common.{◌≡◌, ◌++◌, length}
use Rattle.spice_cards.specs.Tokens.{tokens_of}
use Rattle.spice_cards.specs.Seen.{tokens_seen}
use Rattle.spice_cards.proofs.tokens.take_tokens.Given as goal

abbrev pub invariant-loop-rest : goal.invariant-loop-rest
invariant-loop-rest l = tokens_seen l.out.items ++ tokens_of l.rest ≡ tokens_seen l.initial.out.items ++ tokens_of l.line

abbrev pub decreases-loop-rest : goal.decreases-loop-rest
decreases-loop-rest l = length l.rest
