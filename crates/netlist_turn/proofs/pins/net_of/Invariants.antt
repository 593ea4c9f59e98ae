use Rattle.std.proofs.Common.{◌≡◌, length}
use Rattle.spice_cards.specs.Seen.{params_seen}
use Rattle.netlist_turn.specs.Pins.{net_of}
use Rattle.netlist_turn.proofs.pins.net_of.Given as goal

abbrev pub invariant-params : goal.invariant-params
invariant-params l = net_of (params_seen l.rest) l.pin ≡ net_of (params_seen l.params) l.pin

abbrev pub decreases-params : goal.decreases-params
decreases-params l = length l.rest
