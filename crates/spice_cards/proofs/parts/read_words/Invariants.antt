use Rattle.std.proofs.Common.{◌≡◌, ◌++◌, length}
use Rattle.spice_cards.specs.Parts.{words_of, behind_words}
use Rattle.spice_cards.specs.Seen.{tokens_seen, words_seen}
use Rattle.spice_cards.proofs.parts.read_words.Given as goal

abbrev pub invariant-words : goal.invariant-words
invariant-words l =
    (words_seen l.words.items ++ words_of (tokens_seen l.rest) ≡ words_of (tokens_seen l.tokens)) × (behind_words (tokens_seen l.rest) ≡ behind_words (tokens_seen l.tokens))

abbrev pub decreases-words : goal.decreases-words
decreases-words l = length l.rest
