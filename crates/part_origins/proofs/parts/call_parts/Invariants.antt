use Rattle.std.proofs.Common.{◌≡◌, ◌+◌, ◌++◌, map, length}
use Rattle.net_model.specs.Rows.{plain_netlist}
use Rattle.part_origins.specs.Inside.{plain_spot}
use Rattle.part_origins.specs.Parts.{call_parts}
use Rattle.part_origins.proofs.parts.call_parts.Given as goal

abbrev pub invariant-spots : goal.invariant-spots
invariant-spots l =
    (l.parts.items ++ call_parts (plain_netlist l.written) l.numbers l.i (map plain_spot l.rest) ≡ call_parts (plain_netlist l.written) l.numbers 0 (map plain_spot l.spots))
    × (l.i + length l.rest ≡ length l.spots)

abbrev pub decreases-spots : goal.decreases-spots
decreases-spots l = length l.rest
