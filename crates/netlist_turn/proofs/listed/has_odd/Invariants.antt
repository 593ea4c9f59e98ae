use Rattle.std.proofs.Common.{◌≡◌, length}
use Rattle.spice_cards.specs.Seen.{params_seen}
use Rattle.netlist_turn.specs.DevicesSeen.{keys_seen}
use Rattle.netlist_turn.specs.Listed.{has_odd}
use Rattle.netlist_turn.proofs.listed.has_odd.Given as goal

abbrev pub invariant-params : goal.invariant-params
invariant-params l = has_odd l.settings (keys_seen l.keys) l.count (params_seen l.rest) ≡ has_odd l.settings (keys_seen l.keys) l.count (params_seen l.params)

abbrev pub decreases-params : goal.decreases-params
decreases-params l = length l.rest
