use Rattle.std.proofs.Common.{◌≡◌, ◌++◌, length, map}
use Rattle.spice_cards.specs.Seen.{tokens_seen, words_seen}
use Rattle.spice_cards.specs.Tokens.{Word}
use Rattle.netlist_turn.proofs.marked.push_words.Given as goal

abbrev pub invariant-words : goal.invariant-words
invariant-words l = tokens_seen l.out.items ++ map Word (words_seen l.rest) ≡ tokens_seen l.fn.out.items ++ map Word (words_seen l.words)

abbrev pub decreases-words : goal.decreases-words
decreases-words l = length l.rest
