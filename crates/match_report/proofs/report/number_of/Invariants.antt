use Rattle.std.proofs.Common.{◌≡◌, ◌+◌, map, length}
use Rattle.std.specs.Prelude.{bytes_eq}
use Rattle.std.specs.List.{position_or_len}
use Rattle.net_model.specs.Rows.{plain_circuit}
use Rattle.match_report.proofs.report.number_of.Given as goal

abbrev pub invariant-circuits : goal.invariant-circuits
invariant-circuits l = (l.k + position_or_len (λ c. bytes_eq l.name c.name) (map plain_circuit l.rest) ≡ position_or_len (λ c. bytes_eq l.name c.name) (map plain_circuit l.circuits)) × (l.k + length l.rest ≡ length l.circuits)

abbrev pub decreases-circuits : goal.decreases-circuits
decreases-circuits l = length l.rest
