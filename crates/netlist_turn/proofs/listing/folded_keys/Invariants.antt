use Rattle.std.proofs.Common.{◌≡◌, ◌++◌, length, map}
use Rattle.spice_cards.specs.Seen.{params_seen}
use Rattle.netlist_turn.specs.Devices.{folded_param}
use Rattle.netlist_turn.specs.DevicesSeen.{keys_seen}
use Rattle.netlist_turn.proofs.listing.folded_keys.Given as goal

abbrev pub invariant-params : goal.invariant-params
invariant-params l = keys_seen l.keys.items ++ map folded_param (params_seen l.rest) ≡ map folded_param (params_seen l.params)

abbrev pub decreases-params : goal.decreases-params
decreases-params l = length l.rest
