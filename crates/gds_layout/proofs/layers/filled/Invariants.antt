use Rattle.std.proofs.Common.{◌≡◌, ◌++◌}
use Rattle.gds_layout.specs.Layering.{AreFilled}
use Rattle.gds_layout.proofs.layers.filled.Given as goal

abbrev pub invariant-loop-pile : goal.invariant-loop-pile
invariant-loop-pile l = (l.fn.piles.items ≡ l.yielded ++ l.pile-iterator.rest.items) × AreFilled l.yielded l.layers.items
