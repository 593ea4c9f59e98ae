use Rattle.std.proofs.Common.{◌≡◌, ◌+◌, [], map, length}
use Rattle.net_model.specs.Tests.{first_clash}
use Rattle.net_model.specs.Rows.{plain_circuit}
use Rattle.net_model.proofs.names.first_clash.Given as goal

abbrev pub invariant-circuits : goal.invariant-circuits
invariant-circuits l =
    (first_clash l.seen l.number (map plain_circuit l.rest) ≡ first_clash [] 0 (map plain_circuit l.circuits))
    × (l.number + length l.rest ≡ length l.circuits)

abbrev pub decreases-circuits : goal.decreases-circuits
decreases-circuits l = length l.rest
