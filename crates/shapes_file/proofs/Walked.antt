-- Paths of the written cells are paths of the layout.
use Rattle.std.proofs.Common.{◌≡◌, ◌↔◌, ℕ, List, [], ◌∷◌, Option, Some, slice_get, refl, sym, ap, subst, ◌∙◌}
use Rattle.geo_base.specs.Motions.{moved_square}
use Rattle.geo_base.specs.declared.motion.Motion.{Motion}
use Rattle.geo_base.specs.declared.shapes.Square.{Square}
use Rattle.flat_layout.specs.Layout.{Place, IsPlaced, IsReached, Takes}
use Rattle.flat_laws.proofs.Cover.{reached_below}
use Rattle.cell_graph.specs.Linked.{Linked, plain}
use Rattle.rule_text.specs.Rules.{Rules}
use Rattle.deep_tables.specs.declared.layers.CellLayers.{CellLayers}
use Rattle.layout_shapes.specs.Writable.{PlacesLaw}
use Rattle.layout_shapes.specs.Written.{AreReached}
use Rattle.shapes_file.proofs.Lists.{at_position, contained, contains, once_rising, position}
use Rattle.shapes_file.specs.Flat.{IsPlacement}
use Rattle.shapes_file.proofs.Drawn.{design_drawn, placed_down, placed_up, renumbered}

pub reached_at : (d : Linked) (ks : List ℕ) (i k : ℕ) → AreReached d ks → slice_get ks i ≡ Some k → IsReached (plain d) k
reached_at d ks i k are at = (are.each k).0 (contains ks i k at)

-- a reached cell stands among those written
pub written_at : (d : Linked) (ks : List ℕ) (k : ℕ) → AreReached d ks → IsReached (plain d) k → slice_get ks (position ks k) ≡ Some k
written_at d ks k are reached = let h = contained ks k ((are.each k).1 reached) in at_position ks k h.0 h.1

below_at : (d : Linked) (ks : List ℕ) (i k n : ℕ) (x : Place) → AreReached d ks → slice_get ks i ≡ Some k → IsPlaced (plain d) k n x → slice_get ks (position ks x.cell) ≡ Some x.cell
below_at d ks i k n x are at placed = written_at d ks x.cell are (reached_below (plain d) k n x (reached_at d ks i k are at) placed)

pub walk_down : PlacesLaw → (d : Linked) (r : Rules) (table : List (Option CellLayers)) (ks path : List ℕ) (i k j : ℕ) (s q : Square) → AreReached d ks → slice_get ks i ≡ Some k
    → Takes (design_drawn d r table ks) i path j s q → (m : ℕ) × (slice_get ks j ≡ Some m) × Takes (plain d) k path m s q
walk_down law d r table ks [] i k j s q are at t = (k, subst (λ (n : ℕ). slice_get ks n ≡ Some k) t.0 at, (refl, t.1))
walk_down law d r table ks (n ∷ path) i k j s q are at t =
    let p = placed_down law d r table ks i k n t.0 at t.1 in
    let there = below_at d ks i k n p.0 are at p.1 in
    let rest : Takes (design_drawn d r table ks) (position ks p.0.cell) path j s t.2 = subst (λ (y : Place). Takes (design_drawn d r table ks) y.cell path j s t.2) (sym p.2) t.3 in
    let moved : moved_square p.0.motion t.2 ≡ q = subst (λ (y : Place). moved_square y.motion t.2 ≡ q) (sym p.2) t.4 in
    let found = walk_down law d r table ks path (position ks p.0.cell) p.0.cell j s t.2 are there rest in
    (found.0, found.1, (p.0, p.1, t.2, found.2, moved))

pub walk_up : PlacesLaw → (d : Linked) (r : Rules) (table : List (Option CellLayers)) (ks path : List ℕ) (i k m : ℕ) (s q : Square) → AreReached d ks → slice_get ks i ≡ Some k
    → Takes (plain d) k path m s q → (j : ℕ) × (slice_get ks j ≡ Some m) × Takes (design_drawn d r table ks) i path j s q
walk_up law d r table ks [] i k m s q are at t = (i, subst (λ (n : ℕ). slice_get ks i ≡ Some n) t.0 at, (refl, t.1))
walk_up law d r table ks (n ∷ path) i k m s q are at t =
    let placed = placed_up law d r table ks i k n t.0 at t.1 in
    let there = below_at d ks i k n t.0 are at t.1 in
    let found = walk_up law d r table ks path (position ks t.0.cell) t.0.cell m s t.2 are there t.3 in
    (found.0, found.1, (renumbered ks t.0, placed, t.2, found.2, t.4))

place_is : (a b : Place) → a.cell ≡ b.cell → a.motion ≡ b.motion → a ≡ b
place_is a b e f =
    ap (λ (c : ℕ). let p : Place = record { cell = c; motion = a.motion } in p) e
    ∙ ap (λ (m : Motion). let p : Place = record { cell = b.cell; motion = m } in p) f

-- a written cell's placements are the layout's, in order
pub same_placements : PlacesLaw → (d : Linked) (r : Rules) (table : List (Option CellLayers)) (ks : List ℕ) (i k n : ℕ) (p : Place) → AreReached d ks → slice_get ks i ≡ Some k
    → IsPlaced (design_drawn d r table ks) i n p ↔ ((x : Place) × IsPlaced (plain d) k n x × IsPlacement ks p x)
same_placements law d r table ks i k n p are at = (
  (λ h.
      let x = placed_down law d r table ks i k n p at h in
      let here : IsPlacement ks (renumbered ks x.0) x.0 = record { cell = below_at d ks i k n x.0 are at x.1; motion = refl } in
      (x.0, x.1, subst (λ (y : Place). IsPlacement ks y x.0) x.2 here)),
  (λ h.
      let placed = placed_up law d r table ks i k n h.0 at h.1 in
      let cell = once_rising ks (position ks h.0.cell) p.cell h.0.cell are.ascending (below_at d ks i k n h.0 are at h.1) h.2.cell in
      subst (λ (y : Place). IsPlaced (design_drawn d r table ks) i n y) (place_is (renumbered ks h.0) p cell (sym h.2.motion)) placed),
)
