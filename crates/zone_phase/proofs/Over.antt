-- Squares over which neighbours lie, one neighbour after the other.
use Rattle.std.proofs.Common.{◌≡◌, ◌⊎◌, ◌↔◌, inl, inr, ℕ, suc, ◌<◌, true, false, List, [], ◌∷◌, Some, None, slice_get, refl, sym, ◌∙◌, subst, arith}
use Rattle.geo_base.specs.Motions.{moved_square}
use Rattle.geo_base.specs.Rects.{has, moved_rect, IsRect}
use Rattle.geo_base.specs.declared.layer.LayerKey.{LayerKey}
use Rattle.geo_base.specs.declared.shapes.Rect.{Rect}
use Rattle.geo_base.specs.declared.shapes.Square.{Square}
use Rattle.geo_base.proofs.Spans.{moved_rect-has}
use Rattle.rect_sets.specs.Rects.{covers}
use Rattle.flat_layout.specs.Layout.{Some_of}
use Rattle.cell_graph.specs.declared.cells.Place.{Place}
use Rattle.cell_graph.specs.Linked.{Linked, IsSound, HullHas, cell_at, hull_of, motion_at, own_of, places_at}
use Rattle.cell_graph.proofs.Bridge.{hulls}
use Rattle.cell_context.proofs.Gathering.{over_flat}
use Rattle.zone_phase.specs.declared.neighbours.Neighbour.{Neighbour}
use Rattle.cell_context.specs.Arrays.{IsAlone}
use Rattle.zone_phase.specs.Neighbours.{IsOverBy}
use Rattle.zone_phase.specs.Pulls.{Adds, OnRects}
use Rattle.zone_phase.specs.Siblings.{Brings}

-- rectangles grew by the squares of a hull over which the neighbour lies
abbrev pub AddsOver : Linked → Rect → LayerKey → Neighbour → List Rect → List Rect → Type 0
AddsOver d g key n old new = (q : Square) → (covers new q ≡ true) ↔ ((covers old q ≡ true) ⊎ ((has g q ≡ true) × IsOverBy d key q n))

none_below : (n k : ℕ) → n ≡ 1 → k < n → k ≡ 0
none_below n k e lt = omega arith

some_below : (n : ℕ) → n ≡ 1 → 0 < n
some_below n e = omega arith

pub over_adds : (d : Linked) (g w : Rect) (key : LayerKey) (n : Neighbour) (none there old new : List Rect) → IsAlone n.place → IsRect g → w ≡ moved_rect (motion_at n.place 0 0) g → none ≡ []
    → Brings d n.other key w none there → Adds n.place g (OnRects n.place there) old new → AddsOver d g key n old new
over_adds d g w key n none there old new (a, b) some is empty brings adds q = (to, from)
  where
    s : Square
    s = moved_square (motion_at n.place 0 0) q

    to : covers new q ≡ true → (covers old q ≡ true) ⊎ ((has g q ≡ true) × IsOverBy d key q n)
    to e = elim ((adds q).0 e) [
      | inl f ↦ inl f
      | inr h ↦
          let i : h.row ≡ 0 = none_below n.place.rows h.row a h.row_in in
          let j : h.column ≡ 0 = none_below n.place.columns h.column b h.column_in in
          let c : covers there (moved_square (motion_at n.place 0 0) q) ≡ true = subst (λ k. covers there (moved_square (motion_at n.place k 0) q) ≡ true) i (subst (λ k. covers there (moved_square (motion_at n.place h.row k) q) ≡ true) j h.holds) in
          elim ((brings (moved_square (motion_at n.place 0 0) q)).0 c) [
            | inl f ↦ let z : false ≡ true = subst (λ l. covers l (moved_square (motion_at n.place 0 0) q) ≡ true) empty f in absurd (let y : ⊥ = cc in y)
            | inr o ↦ inr (h.inner, o.1)
          ]
    ]

    from : (covers old q ≡ true) ⊎ ((has g q ≡ true) × IsOverBy d key q n) → covers new q ≡ true
    from (inl e) = (adds q).1 (inl e)
    from (inr (inner, o)) =
        let inside : has w (moved_square (motion_at n.place 0 0) q) ≡ true = subst (λ x. has x (moved_square (motion_at n.place 0 0) q) ≡ true) (sym is) (moved_rect-has (motion_at n.place 0 0) g q some ∙ inner) in
        (adds q).1 (inr (record { row = 0; column = 0; row_in = some_below n.place.rows a; column_in = some_below n.place.columns b; inner = inner; holds = (brings (moved_square (motion_at n.place 0 0) q)).1 (inr (inside, o)) }))

-- a neighbour that brings nothing
pub none_over : (d : Linked) (g : Rect) (key : LayerKey) (n : Neighbour) (old : List Rect) → ((q : Square) → IsOverBy d key q n → ⊥) → AddsOver d g key n old old
none_over d g key n old none q = ((λ e. inl e), (λ h. elim h [ inl e ↦ e | inr o ↦ absurd (none q o.1) ]))

-- a cell without own shapes that places no other has no flat square
pub bare_over : (d : Linked) (key : LayerKey) (n : Neighbour) (q : Square) → IsSound d → own_of (cell_at d n.other.cell) key ≡ [] → places_at (cell_at d n.other.cell) ≡ [] → IsOverBy d key q n → ⊥
bare_over d key n q sound bare leaf o = elim ((over_flat d sound n.other.cell key o.square).1 o.flat) [
  | inl e ↦ let z : false ≡ true = subst (λ l. covers l o.square ≡ true) bare e in let y : ⊥ = cc in y
  | inr t ↦ let z : slice_get [] t.index ≡ Some t.from = subst (λ (l : List Place). slice_get l t.index ≡ Some t.from) leaf t.step.there in let y : ⊥ = cc in y
]

pub hulless_over : (d : Linked) (key : LayerKey) (n : Neighbour) (q : Square) → IsSound d → None ≡ hull_of (cell_at d n.other.cell) → IsOverBy d key q n → ⊥
hulless_over d key n q sound none o = subst (λ h. HullHas h o.square) (sym none) (hulls d sound n.other.cell key o.square o.flat)

-- the element of a list that has it
pub some_index : {A : Type 0} (P : A → Type 0) (xs : List A) → Some_of P xs → (k : ℕ) × (x : A) × (slice_get xs k ≡ Some x) × P x
some_index P [] h = absurd h
some_index P (x ∷ xs) (inl h) = (0, x, refl, h)
some_index P (x ∷ xs) (inr h) = let r = some_index P xs h in (suc r.0, r.1, r.2, r.3)
