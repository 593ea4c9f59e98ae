use Rattle.std.proofs.Common.{◌≡◌, ℕ, ◌<◌}
use Rattle.geo_base.specs.declared.shapes.Square.{Square}
use Rattle.geo_base.specs.Motions.{moved_square}
use Rattle.flat_layout.specs.Layers.{IsKept}
use Rattle.flat_layout.specs.Layout.{Place, IsPlaced}
use Rattle.flat_slow.proofs.layers.is_below.Given as goal
use Rattle.flat_slow.specs.Slow.{plain_formula}
use Rattle.flat_slow.specs.Paths.{plain}

abbrev pub invariant-loop-place : goal.invariant-loop-place
invariant-loop-place l = (k : ℕ) (p : Place) → k < l.place-index → IsPlaced (plain l.d) l.cell k p × ((r : Square) × IsKept (plain l.d) p.cell (plain_formula l.layer) r × (moved_square p.motion r ≡ l.q)) → ⊥
