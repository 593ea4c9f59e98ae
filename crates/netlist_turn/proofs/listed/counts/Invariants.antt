use Rattle.std.proofs.Common.{◌≡◌, ◌+◌, ◌≤◌, length}
use Rattle.std.specs.Prelude.{codes}
use Rattle.std.specs.List.{count_by}
use Rattle.spice_cards.specs.Seen.{params_seen}
use Rattle.netlist_turn.specs.Devices.{stands_for}
use Rattle.netlist_turn.specs.DevicesSeen.{keys_seen}
use Rattle.netlist_turn.proofs.listed.counts.Given as goal

abbrev pub invariant-params : goal.invariant-params
invariant-params l =
    (l.n + count_by (stands_for (codes "M") (keys_seen l.keys)) (params_seen l.rest) ≡ count_by (stands_for (codes "M") (keys_seen l.keys)) (params_seen l.params))
    × (l.n + length l.rest ≤ length l.params)

abbrev pub decreases-params : goal.decreases-params
decreases-params l = length l.rest
