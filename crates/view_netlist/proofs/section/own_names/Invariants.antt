use Rattle.std.proofs.Common.{◌≡◌, ◌++◌, length, map}
use Rattle.net_model.specs.Rows.{plain_circuit}
use Rattle.view_netlist.proofs.section.own_names.Given as goal

abbrev pub invariant-circuits : goal.invariant-circuits
invariant-circuits l = l.names.items ++ map (λ c. c.name) (map plain_circuit l.rest) ≡ map (λ c. c.name) (map plain_circuit l.circuits)

abbrev pub decreases-circuits : goal.decreases-circuits
decreases-circuits l = length l.rest
