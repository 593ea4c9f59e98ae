-- References to a cell, one after the other.
use Rattle.std.proofs.Common.{◌≡◌, ◌⊎◌, ◌↔◌, inl, inr, ℕ, ◌+◌, true, List, Option, Some, sym, ◌∙◌, subst, arith, length, slice_get}
use Rattle.std.proofs.Math.Decide.{ℕ_discrete}
use Rattle.std.proofs.lemmas.Option.{slice_get_within}
use Rattle.geo_base.specs.Rects.{has}
use Rattle.geo_base.specs.declared.layer.LayerKey.{LayerKey}
use Rattle.geo_base.specs.declared.shapes.Rect.{Rect}
use Rattle.geo_base.specs.declared.shapes.Square.{Square}
use Rattle.rect_sets.specs.Rects.{covers}
use Rattle.cell_graph.specs.declared.cells.Place.{Place}
use Rattle.cell_graph.specs.Linked.{Linked, cell_at, places_at}
use Rattle.cell_context.proofs.Collecting.{one_place}
use Rattle.deep_tables.specs.declared.zones.CellZones.{CellZones}
use Rattle.deep_tables.specs.Entries.{downward_cell}
use Rattle.zone_phase.specs.declared.uses.Use.{Use}
use Rattle.zone_phase.specs.Pulls.{Adds, IsSome}
use Rattle.zone_phase.specs.Neighbours.{WhyHere}
use Rattle.zone_phase.specs.Jobs.{IsFromUse, IsFromUses, zone_in}

-- a list of rectangles grew by what one reference brings
pub use_adds : (d : Linked) (zone : List Rect) (cell : ℕ) (key : LayerKey) (g : Rect) (u : Use) (place : Place) (old new : List Rect)
    → slice_get (places_at (cell_at d (downward_cell d u.job))) u.index ≡ Some place → place.cell ≡ cell → Adds place g (WhyHere zone d (downward_cell d u.job) u.index key place) old new
    → (q : Square) → (covers new q ≡ true) ↔ ((covers old q ≡ true) ⊎ IsFromUse d zone cell key g q u)
use_adds d zone cell key g u place old new there here adds q = (
  (λ e. elim ((adds q).0 e) [
    | inl f ↦ inl f
    | inr s ↦ inr (record { row = s.row; column = s.column; from = place; step = record { there = there; row_in = s.row_in; column_in = s.column_in }; here = here; inner = s.inner; why = s.holds })
  ]),
  (λ h. elim h [ inl e ↦ (adds q).1 (inl e) | inr r ↦ (adds q).1 (inr (at_place r)) ]),
)
  where
    at_place : IsFromUse d zone cell key g q u → IsSome place g (WhyHere zone d (downward_cell d u.job) u.index key place) q
    at_place r =
        let f : r.from ≡ place = one_place (slice_get (places_at (cell_at d (downward_cell d u.job))) u.index) r.from place r.step.there there in
        let s : IsSome r.from g (WhyHere zone d (downward_cell d u.job) u.index key r.from) q = record { row = r.row; column = r.column; row_in = r.step.row_in; column_in = r.step.column_in; inner = r.inner; holds = r.why } in
        subst (λ (p : Place). IsSome p g (WhyHere zone d (downward_cell d u.job) u.index key p) q) f s

pub one_use : (o : Option Use) (u v : Use) → o ≡ Some u → o ≡ Some v → u ≡ v
one_use o u v e f = let h : Some u ≡ Some v = sym e ∙ f in cc

-- a list of rectangles grew by what the first references bring
abbrev pub GrownBy : Linked → (ℕ → Option CellZones) → ℕ → ℕ → LayerKey → Rect → List Use → ℕ → List Rect → List Rect → Type 0
GrownBy d value name cell key g uses bound old new = (q : Square) → (covers new q ≡ true) ↔ ((covers old q ≡ true) ⊎ IsFromUses d value name cell key g uses bound q)

wider : (d : Linked) (value : ℕ → Option CellZones) (name cell : ℕ) (key : LayerKey) (g : Rect) (uses : List Use) (i : ℕ) (q : Square)
    → IsFromUses d value name cell key g uses i q → IsFromUses d value name cell key g uses (i + 1) q
wider d value name cell key g uses i q r = let lt = r.at_in in record { at = r.at; found = r.found; at_in = omega arith; there = r.there; brings = r.brings }

split : (d : Linked) (value : ℕ → Option CellZones) (name cell : ℕ) (key : LayerKey) (g : Rect) (uses : List Use) (i : ℕ) (u : Use) (q : Square) → slice_get uses i ≡ Some u
    → IsFromUses d value name cell key g uses (i + 1) q → IsFromUses d value name cell key g uses i q ⊎ IsFromUse d (zone_in (value u.job) name) cell key g q u
split d value name cell key g uses i u q there r = elim (ℕ_discrete r.at i) [
  | no not ↦ let lt = r.at_in in inl (record { at = r.at; found = r.found; at_in = omega arith; there = r.there; brings = r.brings })
  | yes e ↦
      let f : r.found ≡ u = one_use (slice_get uses i) r.found u (subst (λ k. slice_get uses k ≡ Some r.found) e r.there) there in
      inr (subst (λ (v : Use). IsFromUse d (zone_in (value v.job) name) cell key g q v) f r.brings)
]

pub uses_more : (d : Linked) (value : ℕ → Option CellZones) (name cell : ℕ) (key : LayerKey) (g : Rect) (uses : List Use) (i : ℕ) (u : Use) (old out new : List Rect) → slice_get uses i ≡ Some u
    → GrownBy d value name cell key g uses i old out → ((q : Square) → (covers new q ≡ true) ↔ ((covers out q ≡ true) ⊎ IsFromUse d (zone_in (value u.job) name) cell key g q u))
    → GrownBy d value name cell key g uses (i + 1) old new
uses_more d value name cell key g uses i u old out new there first second q = (
  (λ e. elim ((second q).0 e) [
    | inl f ↦ elim ((first q).0 f) [ inl h ↦ inl h | inr r ↦ inr (wider d value name cell key g uses i q r) ]
    | inr s ↦ inr (record { at = i; found = u; at_in = omega arith; there = there; brings = s })
  ]),
  (λ h. elim h [
    | inl e ↦ (second q).1 (inl ((first q).1 (inl e)))
    | inr r ↦ elim (split d value name cell key g uses i u q there r) [ inl s ↦ (second q).1 (inl ((first q).1 (inr s))) | inr s ↦ (second q).1 (inr s) ]
  ]),
)

-- where the whole hull is covered, the other references add nothing
pub full_all : (d : Linked) (value : ℕ → Option CellZones) (name cell : ℕ) (key : LayerKey) (g : Rect) (uses : List Use) (i : ℕ) (old out : List Rect) → GrownBy d value name cell key g uses i old out
    → ((q : Square) → has g q ≡ true → covers out q ≡ true) → GrownBy d value name cell key g uses (length uses) old out
full_all d value name cell key g uses i old out first full q = (
  (λ e. elim ((first q).0 e) [
    | inl h ↦ inl h
    | inr r ↦ inr (record { at = r.at; found = r.found; at_in = slice_get_within uses r.at r.found r.there; there = r.there; brings = r.brings })
  ]),
  (λ h. elim h [ inl e ↦ (first q).1 (inl e) | inr r ↦ full q r.brings.inner ]),
)

-- none was looked at
pub none_yet : (d : Linked) (value : ℕ → Option CellZones) (name cell : ℕ) (key : LayerKey) (g : Rect) (uses : List Use) (old : List Rect) → GrownBy d value name cell key g uses 0 old old
none_yet d value name cell key g uses old q = (λ e. inl e, λ h. elim h [ inl e ↦ e | inr r ↦ let lt = r.at_in in let z : ⊥ = omega arith in absurd z ])
