use Rattle.std.proofs.Common.{◌≡◌, length}
use Rattle.spice_cards.specs.Seen.{params_seen}
use Rattle.netlist_turn.specs.Pins.{has_net}
use Rattle.netlist_turn.proofs.pins.has_net.Given as goal

abbrev pub invariant-params : goal.invariant-params
invariant-params l = has_net (params_seen l.rest) l.pin ≡ has_net (params_seen l.params) l.pin

abbrev pub decreases-params : goal.decreases-params
decreases-params l = length l.rest
