use Rattle.std.proofs.Common.{◌≡◌, ◌+◌, [], map, length}
use Rattle.net_model.specs.Rows.{plain_circuit}
use Rattle.part_origins.specs.Inside.{all_inside, plain_inside}
use Rattle.part_origins.proofs.inside.all_inside.Given as goal

abbrev pub invariant-circuits : goal.invariant-circuits
invariant-circuits l =
    (all_inside l.goes (map plain_inside l.known.items) l.c (map plain_circuit l.rest) ≡ all_inside l.goes [] 0 (map plain_circuit l.circuits))
    × (l.c + length l.rest ≡ length l.circuits)

abbrev pub decreases-circuits : goal.decreases-circuits
decreases-circuits l = length l.rest
