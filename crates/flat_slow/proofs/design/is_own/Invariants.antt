use Rattle.std.proofs.Common.{◌≡◌, ℕ, ◌<◌, Some, map, slice_get}
use Rattle.flat_slow.proofs.design.is_own.Given as goal
use Rattle.flat_slow.specs.Paths.{IsOnLayer, plain_layer}
use Rattle.flat_layout.specs.Layout.{Layer}

abbrev pub invariant-loop-shape : goal.invariant-loop-shape
invariant-loop-shape l = (k : ℕ) (layer : Layer) → k < l.shape-index → slice_get (map plain_layer l.shapes) k ≡ Some layer → IsOnLayer l.key l.q layer → ⊥
