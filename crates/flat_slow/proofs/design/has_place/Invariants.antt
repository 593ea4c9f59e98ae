use Rattle.std.proofs.Common.{◌≡◌, ℕ, ◌<◌, Some, map, slice_get}
use Rattle.flat_slow.proofs.design.has_place.Given as goal
use Rattle.flat_slow.specs.Paths.{plain_place}
use Rattle.flat_layout.specs.Layout.{Place}

abbrev pub invariant-loop-place : goal.invariant-loop-place
invariant-loop-place l = (k : ℕ) (p : Place) → k < l.place-index → slice_get (map plain_place l.places) k ≡ Some p → p.cell ≡ l.cell → ⊥
