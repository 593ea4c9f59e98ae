use Rattle.std.proofs.Common.{◌≡◌, ◌<◌, ◌≤◌, ◌+◌, length, map}
use Rattle.std.specs.List.{All, sum_by}
use Rattle.net_model.specs.Rows.{plain_call, plain_circuit}
use Rattle.pair_turns.specs.Limit.{call_rows, capped, rows_of}
use Rattle.pair_turns.proofs.limit.rows_of.Given as goal

abbrev pub invariant-calls : goal.invariant-calls
invariant-calls l = (capped (l.rows + sum_by (call_rows l.goes l.sizes) (map plain_call l.rest)) ≡ capped (rows_of l.goes l.sizes (plain_circuit l.circuit))) × (l.rows ≤ 16777217) × All (λ r. r.circuit < length l.goes) l.rest × All (λ r. r.circuit < length l.sizes) l.rest

abbrev pub decreases-calls : goal.decreases-calls
decreases-calls l = length l.rest
