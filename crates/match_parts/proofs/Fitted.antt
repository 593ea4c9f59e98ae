-- What a fitting pair says of the rows of one side.
use Rattle.std.proofs.Common.{length, slice_index}
use Rattle.round_laws.specs.Nodes.{Side, Net}
use Rattle.match_parts.specs.Rows.{AreDevicesOn, AreCallsOn}
use Rattle.match_laws.specs.Circuits.{Pair, circuit_of, end_at, node, IsFitting}
use Rattle.match_laws.proofs.Images.{net_has_end}
use Rattle.match_laws.proofs.Sums.{listed_index}

pub devices_on : (p : Pair) (side : Side) → IsFitting p side → AreDevicesOn (circuit_of p side) (length (circuit_of p side).nets)
devices_on p side h k d g m on = let e = net_has_end side d m on in h.devices k d g (end_at e.0 (node side Net m)) e.1

pub calls_on : (p : Pair) (side : Side) → IsFitting p side → AreCallsOn (circuit_of p side) (length (circuit_of p side).nets)
calls_on p side h k c g i low = h.calls k c g (slice_index c.nets i) (listed_index c.nets i low)
