use Rattle.std.proofs.Common.{◌≡◌, ◌++◌, length}
use Rattle.spice_cards.specs.Seen.{params_seen}
use Rattle.netlist_turn.specs.Devices.{said_params}
use Rattle.netlist_turn.specs.DevicesSeen.{keys_seen}
use Rattle.netlist_turn.proofs.device.push_said.Given as goal

abbrev pub invariant-params : goal.invariant-params
invariant-params l =
    params_seen l.out.items ++ said_params l.kind (keys_seen l.keys) (params_seen l.rest)
    ≡ params_seen l.fn.out.items ++ said_params l.kind (keys_seen l.keys) (params_seen l.params)

abbrev pub decreases-params : goal.decreases-params
decreases-params l = length l.rest
