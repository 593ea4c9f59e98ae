use Rattle.std.proofs.Common.{◌≡◌, [], map, length}
use Rattle.net_model.specs.Rows.{plain_circuit}
use Rattle.part_origins.specs.Kept.{texts_from}
use Rattle.part_origins.proofs.kept.name_table.Given as goal

abbrev pub invariant-circuits : goal.invariant-circuits
invariant-circuits l =
    texts_from l.table (map plain_circuit l.rest) ≡ texts_from [] (map plain_circuit l.circuits)

abbrev pub decreases-circuits : goal.decreases-circuits
decreases-circuits l = length l.rest
