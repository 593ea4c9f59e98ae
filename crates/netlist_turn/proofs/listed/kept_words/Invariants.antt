use Rattle.std.proofs.Common.{◌≡◌, ◌++◌, length}
use Rattle.spice_cards.specs.Seen.{words_seen}
use Rattle.netlist_turn.specs.CardLaw.{kept_words}
use Rattle.netlist_turn.proofs.listed.kept_words.Given as goal

abbrev pub invariant-words : goal.invariant-words
invariant-words l = words_seen l.kept.items ++ kept_words l.row (words_seen l.rest) ≡ kept_words l.row (words_seen l.words)

abbrev pub decreases-words : goal.decreases-words
decreases-words l = length l.rest
