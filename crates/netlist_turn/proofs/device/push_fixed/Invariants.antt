use Rattle.std.proofs.Common.{◌≡◌, ◌++◌, length}
use Rattle.spice_cards.specs.Seen.{params_seen}
use Rattle.netlist_turn.specs.Devices.{fixed_params}
use Rattle.netlist_turn.specs.DevicesSeen.{keys_seen}
use Rattle.netlist_turn.proofs.device.push_fixed.Given as goal

abbrev pub invariant-keys : goal.invariant-keys
invariant-keys l =
    params_seen l.out.items ++ fixed_params l.kind (keys_seen l.rest) ≡ params_seen l.fn.out.items ++ fixed_params l.kind (keys_seen l.keys)

abbrev pub decreases-keys : goal.decreases-keys
decreases-keys l = length l.rest
