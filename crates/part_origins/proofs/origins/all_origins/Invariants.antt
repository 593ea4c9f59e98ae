use Rattle.std.proofs.Common.{◌≡◌, ◌+◌, ◌++◌, [], map, length}
use Rattle.net_model.specs.Rows.{plain_circuit}
use Rattle.part_origins.specs.Made.{plain_origins}
use Rattle.part_origins.specs.Source.{all_in}
use Rattle.part_origins.proofs.origins.all_origins.Given as goal

abbrev pub invariant-circuits : goal.invariant-circuits
invariant-circuits l =
    (map plain_origins l.found.items ++ all_in l.source l.kept l.i (map (λ p. p.items) l.held.items) (map plain_circuit l.rest)
    ≡ all_in l.source l.kept 0 [] (map plain_circuit l.aligned))
    × (l.i + length l.rest ≡ length l.aligned)

abbrev pub decreases-circuits : goal.decreases-circuits
decreases-circuits l = length l.rest
