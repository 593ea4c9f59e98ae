use Rattle.std.proofs.Common.{◌≡◌, ◌+◌, false, length}
use Rattle.spice_cards.specs.Tokens.{run}
use Rattle.spice_cards.proofs.tokens.word_len.Given as goal

abbrev pub invariant-bytes : goal.invariant-bytes
invariant-bytes l = (l.n + run l.escaped l.rest ≡ run false l.bytes) × (l.n + length l.rest ≡ length l.bytes)

abbrev pub decreases-bytes : goal.decreases-bytes
decreases-bytes l = length l.rest
