use Rattle.std.proofs.Common.{◌≡◌, ◌++◌, length, map}
use Rattle.net_model.specs.Rows.{plain_circuit}
use Rattle.view_labels.specs.Labels.{numbers_of}
use Rattle.view_labels.proofs.names.shown_numbers.Given as goal

abbrev pub invariant-circuits : goal.invariant-circuits
invariant-circuits l = l.places.items ++ numbers_of l.table (map plain_circuit l.rest) ≡ numbers_of l.table (map plain_circuit l.circuits)

abbrev pub decreases-circuits : goal.decreases-circuits
decreases-circuits l = length l.rest
