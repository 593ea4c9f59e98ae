-- Near which squares all is shut, by the table.
use Rattle.std.proofs.Common.{◌≡◌, ◌↔◌, inl, inr, ℕ, ◌+◌, ◌≤◌, false, List}
use Rattle.std.specs.List.{All}
use Rattle.std.proofs.lemmas.Bool.{cases_Bool}
use Rattle.base_laws.proofs.Tests.{not_both}
use Rattle.geo_base.specs.Rects.{IsRect}
use Rattle.geo_base.specs.declared.layer.LayerKey.{LayerKey}
use Rattle.geo_base.specs.declared.shapes.Rect.{Rect}
use Rattle.geo_base.specs.declared.shapes.Square.{Square}
use Rattle.rect_sets.specs.Rects.{covers}
use Rattle.flat_layout.specs.Layers.{IsCalmAt}
use Rattle.flat_layout.specs.Plane.{AreWithin}
use Rattle.flat_laws.proofs.Moves.{farther, within_back}
use Rattle.cell_graph.specs.Grown.{IsInGrown}
use Rattle.cell_graph.specs.Linked.{Linked, HullIsSound, hull_of, cell_at, plain}
use Rattle.cell_graph.proofs.Growing.{near_square, within_grown, wider_grown}
use Rattle.deep_tables.specs.Frames.{IsFramedOpen}
use Rattle.layer_phase.specs.Around.{around}
use Rattle.layer_phase.proofs.Around.{covered_near, near_covered}

-- what lies within m of a square of the hull, grown by so much, lies in the hull grown by twice as much
pub held_near : (m n : ℕ) (d : Linked) (cell : ℕ) (z s : Square) → m + m ≤ n → HullIsSound (hull_of (cell_at d cell)) → IsInGrown m (hull_of (cell_at d cell)) s → AreWithin m z s → IsInGrown n (hull_of (cell_at d cell)) z
held_near m n d cell z s twice sound inner near =
    let p = near_square m (hull_of (cell_at d cell)) s sound inner in
    let far : AreWithin (m + m) z p.0 = farther m m z s p.0 near p.2 in
    wider_grown (m + m) n (hull_of (cell_at d cell)) z twice (within_grown (m + m) (hull_of (cell_at d cell)) z p.0 p.1 far)

-- within m of a hull the squares that the cell leaves, in the hull grown by twice as much, tell it
pub calm_around : (m n : ℕ) (d : Linked) (keys : List LayerKey) (cell : ℕ) (zone : List Rect) (s : Square) → m + m ≤ n → IsFramedOpen n d keys cell zone → All IsRect zone → HullIsSound (hull_of (cell_at d cell))
    → IsInGrown m (hull_of (cell_at d cell)) s → (covers (around m zone) s ≡ false) ↔ IsCalmAt (plain d) keys m cell s
calm_around m n d keys cell zone s twice frame some sound inner = (
  (λ off z near. elim (cases_Bool (covers zone z)) [
    | inl c ↦ absurd (not_both (covers (around m zone) s) (near_covered m zone s z c (within_back m z s near)) off)
    | inr c ↦ frame.shut z (held_near m n d cell z s twice sound inner near) c
  ]),
  (λ calm. elim (cases_Bool (covers (around m zone) s)) [
    | inl c ↦ (let z = covered_near m zone s some c in absurd ((frame.inside z.0 z.1).1 (calm z.0 (within_back m s z.0 z.2))))
    | inr c ↦ c
  ]),
)
