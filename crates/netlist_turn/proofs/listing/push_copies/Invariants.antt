use Rattle.std.proofs.Common.{◌≡◌, ◌++◌, length}
use Rattle.spice_cards.specs.Seen.{words_seen}
use Rattle.netlist_turn.specs.PinsSeen.{pins_seen}
use Rattle.netlist_turn.proofs.listing.push_copies.Given as goal

abbrev pub invariant-words : goal.invariant-words
invariant-words l = pins_seen l.out.items ++ words_seen l.rest ≡ pins_seen l.fn.out.items ++ words_seen l.words

abbrev pub decreases-words : goal.decreases-words
decreases-words l = length l.rest
