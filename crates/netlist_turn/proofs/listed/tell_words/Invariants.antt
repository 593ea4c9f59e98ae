use Rattle.std.proofs.Common.{◌≡◌, length}
use Rattle.spice_cards.specs.Seen.{words_seen}
use Rattle.netlist_turn.specs.Listed.{words_told}
use Rattle.netlist_turn.specs.Seen.{seen}
use Rattle.netlist_turn.proofs.listed.tell_words.Given as goal

abbrev pub invariant-words : goal.invariant-words
invariant-words l = words_told l.row (seen l.made) l.line (words_seen l.rest) ≡ words_told l.row (seen l.fn.made) l.line (words_seen l.words)

abbrev pub decreases-words : goal.decreases-words
decreases-words l = length l.rest
