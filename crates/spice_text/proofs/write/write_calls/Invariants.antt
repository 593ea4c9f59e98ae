use Rattle.std.proofs.Common.{◌≡◌, ◌++◌, ◌≤◌, ◌+◌, map, length}
use Rattle.net_model.specs.Rows.{plain_call, plain_circuit}
use Rattle.spice_text.specs.Written.{calls_text}
use Rattle.spice_text.proofs.write.write_calls.Given as goal

abbrev pub invariant-calls : goal.invariant-calls
invariant-calls l = (l.out.items ++ calls_text (map plain_circuit l.circuits) l.nets l.k (map plain_call l.rest) ≡ l.initial.out.items ++ calls_text (map plain_circuit l.circuits) l.nets 1 (map plain_call l.calls)) × (l.k + length l.rest ≤ length l.calls + 1)

abbrev pub decreases-calls : goal.decreases-calls
decreases-calls l = length l.rest
