use Rattle.std.proofs.Common.{◌≡◌, length}
use Rattle.spice_cards.specs.Seen.{params_seen}
use Rattle.netlist_turn.specs.DevicesSeen.{keys_seen}
use Rattle.netlist_turn.specs.Listed.{params_told}
use Rattle.netlist_turn.specs.Seen.{seen}
use Rattle.netlist_turn.proofs.listed.tell_params.Given as goal

abbrev pub invariant-params : goal.invariant-params
invariant-params l =
    params_told l.kind (keys_seen l.keys) (seen l.made) l.line (params_seen l.rest) ≡ params_told l.kind (keys_seen l.keys) (seen l.fn.made) l.line (params_seen l.params)

abbrev pub decreases-params : goal.decreases-params
decreases-params l = length l.rest
