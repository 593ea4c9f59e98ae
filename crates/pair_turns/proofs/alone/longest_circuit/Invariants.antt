use Rattle.std.proofs.Common.{◌≡◌, length, map}
use Rattle.net_model.specs.Rows.{plain_circuit}
use Rattle.pair_turns.specs.Alone.{greater, longest}
use Rattle.pair_turns.proofs.alone.longest_circuit.Given as goal

abbrev pub invariant-circuits : goal.invariant-circuits
invariant-circuits l = greater (longest (map (λ c. c.name) (map plain_circuit l.rest))) l.most ≡ greater (longest (map (λ c. c.name) (map plain_circuit l.circuits))) l.fn.most

abbrev pub decreases-circuits : goal.decreases-circuits
decreases-circuits l = length l.rest
