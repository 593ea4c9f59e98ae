use Rattle.std.proofs.Common.{◌≡◌, ◌++◌, length, map}
use Rattle.net_model.specs.Rows.{plain_circuit}
use Rattle.pair_turns.specs.Alone.{gone_names}
use Rattle.pair_turns.proofs.alone.add_gone.Given as goal

abbrev pub invariant-circuits : goal.invariant-circuits
invariant-circuits l = l.names.items ++ gone_names l.marks (map plain_circuit l.rest) ≡ l.initial.names.items ++ gone_names l.goes (map plain_circuit l.circuits)

abbrev pub decreases-circuits : goal.decreases-circuits
decreases-circuits l = length l.rest
