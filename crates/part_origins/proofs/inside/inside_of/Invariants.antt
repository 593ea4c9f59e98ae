use Rattle.std.proofs.Common.{◌≡◌, ◌+◌, map, length}
use Rattle.net_model.specs.Rows.{plain_call, plain_circuit}
use Rattle.part_origins.specs.Inside.{all_laid, inside_of, plain_inside}
use Rattle.part_origins.proofs.inside.inside_of.Given as goal

abbrev pub invariant-calls : goal.invariant-calls
invariant-calls l =
    (all_laid l.goes (map plain_inside l.known) l.k (map plain_call l.rest) (plain_inside l.inside) ≡ inside_of l.goes (map plain_inside l.known) l.circuit (plain_circuit l.given))
    × (l.k + length l.rest ≡ length l.given.calls.items)

abbrev pub decreases-calls : goal.decreases-calls
decreases-calls l = length l.rest
