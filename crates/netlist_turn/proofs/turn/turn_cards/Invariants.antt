use Rattle.std.proofs.Common.{◌≡◌, length}
use Rattle.netlist_turn.specs.Turning.{turned, turning}
use Rattle.netlist_turn.specs.Seen.{seen}
use Rattle.netlist_turn.proofs.turn.turn_cards.Given as goal

abbrev pub invariant-cards : goal.invariant-cards
invariant-cards l = turning l.settings (seen l.made) l.cards ≡ turned l.settings l.bytes

abbrev pub decreases-cards : goal.decreases-cards
decreases-cards l = length l.cards
