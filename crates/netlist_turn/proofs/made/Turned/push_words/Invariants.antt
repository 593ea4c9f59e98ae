use Rattle.std.proofs.Common.{◌≡◌, length}
use Rattle.spice_cards.specs.Seen.{words_seen}
use Rattle.netlist_turn.specs.Made.{words_made}
use Rattle.netlist_turn.specs.Seen.{seen}
use Rattle.netlist_turn.proofs.made.Turned.push_words.Given as goal

abbrev pub invariant-words : goal.invariant-words
invariant-words l = words_made l.row (seen l.self) l.line (words_seen l.rest) ≡ words_made l.row (seen l.fn.self) l.line (words_seen l.words)

abbrev pub decreases-words : goal.decreases-words
decreases-words l = length l.rest
