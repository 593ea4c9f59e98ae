use Rattle.std.proofs.Common.{◌≡◌, ◌++◌, length, map}
use Rattle.net_model.specs.Rows.{plain_circuit}
use Rattle.view_labels.specs.Labels.{labels_of}
use Rattle.view_labels.proofs.names.labels.Given as goal

abbrev pub invariant-circuits : goal.invariant-circuits
invariant-circuits l = l.names.items ++ labels_of l.design l.cells l.table (map plain_circuit l.rest) ≡ labels_of l.design l.cells l.table (map plain_circuit l.circuits)

abbrev pub decreases-circuits : goal.decreases-circuits
decreases-circuits l = length l.rest
