-- Ordered cards.
use Rattle.std.specs.Prelude.{◌≡◌, map, None}
use Rattle.call_order.specs.Order.{lists}
use Rattle.spice_text.specs.Gather.{Cards}
use Rattle.spice_text.specs.Circuits.{all_of}
use Rattle.spice_text.specs.Faults.{AreOrdered}
use Rattle.spice_text.specs.Seen.{circuit_seen}
use Rattle.spice_text.specs.declared.ordered.OrderedCards.{OrderedCards}

-- nothing is wrong with the cards, and these are their circuits
pub record IsOrdered (cards : Cards) (o : OrderedCards) : Type 0 where
  pub ended : cards.open_one ≡ None
  pub circuits : map circuit_seen o.circuits.items ≡ all_of cards
  pub globals : o.globals.items ≡ cards.globals
  pub order : AreOrdered (all_of cards) o.names (lists o.calls.items) o.order.items
