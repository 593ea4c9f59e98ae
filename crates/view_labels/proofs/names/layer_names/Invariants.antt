use Rattle.std.proofs.Common.{◌≡◌, ◌++◌, length}
use Rattle.view_labels.specs.Labels.{layer_names}
use Rattle.view_labels.proofs.names.layer_names.Given as goal

abbrev pub invariant-rules : goal.invariant-rules
invariant-rules l = l.names.items ++ layer_names l.rest ≡ layer_names l.rules

abbrev pub decreases-rules : goal.decreases-rules
decreases-rules l = length l.rest
