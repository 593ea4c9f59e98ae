use Rattle.std.proofs.Common.{◌≡◌, ◌++◌, length}
use Rattle.spice_cards.specs.Seen.{words_seen}
use Rattle.netlist_turn.specs.Marked.{unmarked}
use Rattle.netlist_turn.proofs.marked.unmarked.Given as goal

abbrev pub invariant-words : goal.invariant-words
invariant-words l = words_seen l.kept.items ++ unmarked (words_seen l.rest) ≡ unmarked (words_seen l.words)

abbrev pub decreases-words : goal.decreases-words
decreases-words l = length l.rest
