use Rattle.std.proofs.Common.{◌≡◌, ◌++◌, length}
use Rattle.view_file.specs.Layers.{layer_rows}
use Rattle.view_file.proofs.layers.push_layers.Given as goal

abbrev pub invariant-layers : goal.invariant-layers
invariant-layers l = l.out.items ++ layer_rows l.rest ≡ l.initial.out.items ++ layer_rows l.rules

abbrev pub decreases-layers : goal.decreases-layers
decreases-layers l = length l.rest
