use Rattle.std.proofs.Common.{◌≡◌, ◌+◌, map, length}
use Rattle.net_model.specs.Tests.{first_from, first_of, calls_none}
use Rattle.net_model.specs.Rows.{plain_circuit}
use Rattle.net_model.proofs.ranges.first_missing.Given as goal

abbrev pub invariant-circuits : goal.invariant-circuits
invariant-circuits l =
    (first_from l.number (calls_none (length l.circuits)) (map plain_circuit l.rest) ≡ first_of (calls_none (length l.circuits)) (map plain_circuit l.circuits))
    × (l.number + length l.rest ≡ length l.circuits)

abbrev pub decreases-circuits : goal.decreases-circuits
decreases-circuits l = length l.rest
