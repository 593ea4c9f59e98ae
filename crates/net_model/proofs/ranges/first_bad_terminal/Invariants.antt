use Rattle.std.proofs.Common.{◌≡◌, ◌+◌, map, length}
use Rattle.net_model.specs.Tests.{first_from, first_of, has_bad_terminal}
use Rattle.net_model.specs.Rows.{plain_circuit}
use Rattle.net_model.proofs.ranges.first_bad_terminal.Given as goal

abbrev pub invariant-circuits : goal.invariant-circuits
invariant-circuits l =
    (first_from l.number has_bad_terminal (map plain_circuit l.rest) ≡ first_of has_bad_terminal (map plain_circuit l.circuits))
    × (l.number + length l.rest ≡ length l.circuits)

abbrev pub decreases-circuits : goal.decreases-circuits
decreases-circuits l = length l.rest
