use Rattle.std.proofs.Common.{◌≡◌, length}
use Rattle.spice_cards.specs.Seen.{words_seen}
use Rattle.spice_rows.specs.Names.{names_of}
use Rattle.spice_rows.proofs.NameLemmas.{after}
use Rattle.spice_rows.proofs.names.names_of.Given as goal

abbrev pub invariant-words : goal.invariant-words
invariant-words l = after l.names.items (names_of (words_seen l.rest)) ≡ names_of (words_seen l.words)

abbrev pub decreases-words : goal.decreases-words
decreases-words l = length l.rest
