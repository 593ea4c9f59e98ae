use Rattle.std.proofs.Common.{◌≡◌, ◌+◌, ◌*◌, ◌^◌, ◌<◌, length, map}
use Rattle.net_model.specs.Rows.{plain_circuit}
use Rattle.view_page.specs.Counts.{device_count, net_count, pin_count}
use Rattle.view_page.proofs.counts.count.Given as goal

abbrev pub invariant-circuits : goal.invariant-circuits
invariant-circuits l =
    (l.counts.devices + device_count (map plain_circuit l.rest) ≡ device_count (map plain_circuit l.circuits))
    × (l.counts.nets + net_count (map plain_circuit l.rest) ≡ net_count (map plain_circuit l.circuits))
    × (l.counts.pins + pin_count (map plain_circuit l.rest) ≡ pin_count (map plain_circuit l.circuits))
    × (l.counts.devices + length l.rest * 2 ^ 64 < 2 ^ 128)
    × (l.counts.nets + length l.rest * 2 ^ 64 < 2 ^ 128)
    × (l.counts.pins + length l.rest * 2 ^ 64 < 2 ^ 128)

abbrev pub decreases-circuits : goal.decreases-circuits
decreases-circuits l = length l.rest
