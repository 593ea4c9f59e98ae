use Rattle.std.proofs.Common.{◌≡◌, ◌++◌, map, length}
use Rattle.net_model.specs.Rows.{plain_circuit}
use Rattle.part_origins.specs.Kept.{places_in}
use Rattle.part_origins.proofs.kept.places_in.Given as goal

abbrev pub invariant-circuits : goal.invariant-circuits
invariant-circuits l =
    l.places.items ++ places_in l.table (map plain_circuit l.rest) ≡ places_in l.table (map plain_circuit l.circuits)

abbrev pub decreases-circuits : goal.decreases-circuits
decreases-circuits l = length l.rest
