-- What references of one placement, and others, bring by themselves.
use Rattle.std.proofs.Common.{◌≡◌, ◌↔◌, inl, inr, ℕ, ◌<◌, true, false, List, [], subst, arith}
use Rattle.geo_base.specs.Rects.{has}
use Rattle.geo_base.specs.declared.layer.LayerKey.{LayerKey}
use Rattle.geo_base.specs.declared.shapes.Rect.{Rect}
use Rattle.geo_base.specs.declared.shapes.Square.{Square}
use Rattle.rect_sets.specs.Rects.{covers}
use Rattle.cell_graph.specs.declared.cells.Place.{Place}
use Rattle.cell_graph.specs.Linked.{Linked, cell_at, own_of}
use Rattle.deep_laws.specs.Zones.{IsFromSibling}
use Rattle.cell_context.specs.Arrays.{IsAlone}
use Rattle.zone_phase.specs.Neighbours.{WhyHere}
use Rattle.zone_phase.specs.Pulls.{Adds, AreCovering, IsSome, OnRectsIn, Why}
use Rattle.zone_phase.proofs.Joining.{joined}

none_below : (n k j : ℕ) → n ≡ 1 → k < n → j < n → k ≡ j
none_below n k j e lt less = omega arith

-- a placement by itself has no sibling
pub no_sibling : (d : Linked) (p : Place) (row column : ℕ) (key : LayerKey) (q : Square) → IsAlone p → row < p.rows → column < p.columns → IsFromSibling d p row column key q → ⊥
no_sibling d p row column key q (a, b) i j s = s.other (none_below p.rows s.other_row row a s.row_in i, none_below p.columns s.other_column column b s.column_in j)

-- the same growth for the same reason
pub adds_same : (p : Place) (hull : Rect) (P Q : ℕ → ℕ → Square → Type 0) (old new : List Rect) → ((row column : ℕ) (q : Square) → row < p.rows → column < p.columns → has hull q ≡ true → P row column q ↔ Q row column q)
    → Adds p hull P old new → Adds p hull Q old new
adds_same p hull P Q old new same adds q = (
  (λ e. elim ((adds q).0 e) [
    | inl f ↦ inl f
    | inr s ↦ inr (record { row = s.row; column = s.column; row_in = s.row_in; column_in = s.column_in; inner = s.inner; holds = (same s.row s.column q s.row_in s.column_in s.inner).0 s.holds })
  ]),
  (λ h. (adds q).1 (elim h [
    | inl f ↦ inl f
    | inr s ↦ inr (record { row = s.row; column = s.column; row_in = s.row_in; column_in = s.column_in; inner = s.inner; holds = (same s.row s.column q s.row_in s.column_in s.inner).1 s.holds })
  ])),
)

pub alone_adds : (d : Linked) (zone windows : List Rect) (parent index : ℕ) (key : LayerKey) (p : Place) (g : Rect) (o1 o2 o3 : List Rect) → IsAlone p → AreCovering p g windows
    → Adds p g (OnRectsIn windows p zone) o1 o2 → Adds p g (OnRectsIn windows p (own_of (cell_at d parent) key)) o2 o3 → Adds p g (WhyHere zone d parent index key p) o1 o3
alone_adds d zone windows parent index key p g o1 o2 o3 apart covering a b =
    joined p g (OnRectsIn windows p zone) (OnRectsIn windows p (own_of (cell_at d parent) key)) (WhyHere zone d parent index key p) o1 o2 o3
    (λ row column q i j h. (
      (λ x. elim x [
        | inl z ↦ inl (covering row column q i j h, z)
        | inr y ↦ elim y [
          | inl o ↦ elim o [ inl mine ↦ inr (covering row column q i j h, mine) | inr t ↦ absurd (t.0 apart) ]
          | inr s ↦ absurd (no_sibling d p row column key q apart i j s)
        ]
      ]),
      (λ x. elim x [ inl z ↦ inl z.1 | inr o ↦ inr (inl (inl o.1)) ]),
    ))
    a b

pub array_adds : (d : Linked) (zone : List Rect) (parent index : ℕ) (key : LayerKey) (p : Place) (g : Rect) (old new : List Rect) → (IsAlone p → ⊥) → Adds p g (Why zone d parent index key p) old new
    → Adds p g (WhyHere zone d parent index key p) old new
array_adds d zone parent index key p g old new apart =
    adds_same p g (Why zone d parent index key p) (WhyHere zone d parent index key p) old new
    (λ row column q i j h. (
      (λ x. elim x [
        | inl z ↦ inl z
        | inr y ↦ elim y [
          | inl o ↦ elim o [ inl mine ↦ inr (inl (inl mine)) | inr t ↦ inr (inl (inr (apart, t))) ]
          | inr s ↦ inr (inr s)
        ]
      ]),
      (λ x. elim x [
        | inl z ↦ inl z
        | inr y ↦ elim y [
          | inl o ↦ elim o [ inl mine ↦ inr (inl (inl mine)) | inr t ↦ inr (inl (inr t.1)) ]
          | inr s ↦ inr (inr s)
        ]
      ]),
    ))

none_covered : (rects : List Rect) (q : Square) → rects ≡ [] → covers rects q ≡ true → ⊥
none_covered rects q none e = let f : false ≡ true = subst (λ l. covers l q ≡ true) none e in cc

-- where nothing is disturbed or drawn in the parent, a placement by itself brings nothing
pub none_adds : (d : Linked) (zone : List Rect) (parent index : ℕ) (key : LayerKey) (p : Place) (g : Rect) (old : List Rect) → IsAlone p → zone ≡ [] → own_of (cell_at d parent) key ≡ []
    → Adds p g (WhyHere zone d parent index key p) old old
none_adds d zone parent index key p g old apart none bare q = ((λ e. inl e), λ h. elim h [ inl e ↦ e | inr s ↦ absurd (nothing s) ])
  where
    nothing : IsSome p g (WhyHere zone d parent index key p) q → ⊥
    nothing s = elim s.holds [
      | inl z ↦ none_covered zone _ none z
      | inr y ↦ elim y [
        | inl o ↦ elim o [ inl mine ↦ none_covered (own_of (cell_at d parent) key) _ bare mine | inr t ↦ t.0 apart ]
        | inr b ↦ no_sibling d p s.row s.column key q apart s.row_in s.column_in b
      ]
    ]
