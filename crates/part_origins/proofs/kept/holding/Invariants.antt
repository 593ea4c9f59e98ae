use Rattle.std.proofs.Common.{◌≡◌, [], map, length}
use Rattle.net_model.specs.Rows.{plain_circuit}
use Rattle.part_origins.specs.Kept.{holding}
use Rattle.part_origins.proofs.kept.holding.Given as goal

abbrev pub invariant-circuits : goal.invariant-circuits
invariant-circuits l =
    holding l.marks.items (map plain_circuit l.rest) ≡ holding [] (map plain_circuit l.circuits)

abbrev pub decreases-circuits : goal.decreases-circuits
decreases-circuits l = length l.rest
