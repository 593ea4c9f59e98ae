use Rattle.std.proofs.Common.{◌≡◌, length}
use Rattle.std.specs.List.{list_all}
use Rattle.netlist_turn.specs.Devices.{is_list_param}
use Rattle.netlist_turn.specs.DevicesSeen.{keys_seen}
use Rattle.netlist_turn.proofs.listing.are_list_params.Given as goal

abbrev pub invariant-keys : goal.invariant-keys
invariant-keys l = list_all (is_list_param l.kind) (keys_seen l.rest) ≡ list_all (is_list_param l.kind) (keys_seen l.keys)

abbrev pub decreases-keys : goal.decreases-keys
decreases-keys l = length l.rest
