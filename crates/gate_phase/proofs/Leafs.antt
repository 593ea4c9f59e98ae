-- A cell that places nothing.
use Rattle.std.proofs.Common.{◌≡◌, ◌↔◌, inl, inr, ℕ, true, List, [], ◌∷◌, Option, Some, None, refl, slice_get, subst}
use Rattle.geo_base.specs.declared.shapes.Rect.{Rect}
use Rattle.geo_base.specs.declared.shapes.Square.{Square}
use Rattle.rect_sets.specs.Rects.{covers}
use Rattle.flat_layout.specs.Gates.{Geometry}
use Rattle.flat_layout.specs.Layers.{Formula, IsKept}
use Rattle.flat_layout.specs.Layout as flat
use Rattle.flat_layout.specs.Layout.{IsPlaced}
use Rattle.flat_layout.specs.Seeds.{IsNearSeed, IsSeed}
use Rattle.flat_layout.specs.Values.{IsLocalLayer}
use Rattle.flat_laws.proofs.Cover.{kept_here}
use Rattle.flat_laws.proofs.Moves.{within_back}
use Rattle.cell_graph.specs.declared.cells.Place.{Place}
use Rattle.cell_graph.specs.Linked.{Linked, IsSound, HullHas, cell_at, hull_of, places_at, plain}
use Rattle.cell_graph.specs.Grown.{IsInGrown}
use Rattle.geo_base.specs.Rects.{grown}
use Rattle.cell_graph.proofs.Bridge.{hulls, step_of}
use Rattle.cell_graph.proofs.Growing.{within_grown}
use Rattle.gate_phase.proofs.Keeping.{one_window}

none_placed : (d : Linked) (cell number : ℕ) (p : flat.Place) → places_at (cell_at d cell) ≡ [] → IsPlaced (plain d) cell number p → ⊥
none_placed d cell number p none placed =
    let t = step_of d cell number p placed in
    let there : slice_get [] t.index ≡ Some t.from = subst (λ (l : List Place). slice_get l t.index ≡ Some t.from) none t.step.there in
    let z : ⊥ = cc in z

-- it keeps what it holds itself
pub leaf_kept : (d : Linked) (cell : ℕ) (x : Formula) (layer : List Rect) → places_at (cell_at d cell) ≡ [] → IsLocalLayer (plain d) x cell layer → (q : Square) → (covers layer q ≡ true) ↔ IsKept (plain d) cell x q
leaf_kept d cell x layer none is q = (
  (λ e. kept_here (plain d) cell x q ((is.each q).0 e)),
  (λ kept. elim (is.parted q kept) [
    | inl here ↦ (is.each q).1 here
    | inr below ↦ absurd (none_placed d cell below.number below.place none below.placed)
  ]),
)

-- its grown hull as a set
abbrev pub hull_list : ℕ → Option Rect → List Rect
hull_list n None = []
hull_list n (Some r) = grown n r ∷ []

held_covers : (n : ℕ) (o : Option Rect) (q : Square) → IsInGrown n o q → covers (hull_list n o) q ≡ true
held_covers n None q h = absurd h
held_covers n (Some r) q h = one_window (grown n r) q h

leaf_held : (d : Linked) (g : Geometry) (cell : ℕ) (q : Square) → IsSound d → places_at (cell_at d cell) ≡ [] → IsSeed (plain d) g cell q → HullHas (hull_of (cell_at d cell)) q
leaf_held d g cell q sound none (inl h) = hulls d sound cell h.key q (record { path = []; end = cell; square = q; takes = (refl, refl); own = h.own })
leaf_held d g cell q sound none (inr h) = absurd (none_placed d cell h.number h.place none h.placed)

-- its seeds are its own shapes, which lie in the hull
pub leaf_seed : (d : Linked) (g : Geometry) (cell : ℕ) (q : Square) → IsSound d → places_at (cell_at d cell) ≡ [] → IsNearSeed (plain d) g cell q → covers (hull_list g.reach (hull_of (cell_at d cell))) q ≡ true
leaf_seed d g cell q sound none h =
    let o = hull_of (cell_at d cell) in
    held_covers g.reach o q (within_grown g.reach o q h.square (leaf_held d g cell h.square sound none h.seed) (within_back g.reach h.square q h.within))
