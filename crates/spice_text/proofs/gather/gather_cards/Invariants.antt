use Rattle.std.proofs.Common.{◌≡◌, length}
use Rattle.spice_rows.specs.Sizes.{read_limit}
use Rattle.spice_text.specs.Gather.{reading, reading_of}
use Rattle.spice_text.specs.Seen.{cards_seen}
use Rattle.spice_text.proofs.gather.gather_cards.Given as goal

abbrev pub invariant-cards : goal.invariant-cards
invariant-cards l = reading read_limit (cards_seen l.all) l.cards ≡ reading_of read_limit l.bytes

abbrev pub decreases-cards : goal.decreases-cards
decreases-cards l = length l.cards
