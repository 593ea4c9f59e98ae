-- Disturbed squares by reference, row and column.
use Rattle.std.proofs.Common.{◌≡◌, ◌⊎◌, inl, inr, ℕ, ◌<◌, arith, List, [], ◌∷◌, ◌++◌, Some, slice_get, map, refl, sym, ◌∙◌, ap, subst}
use Rattle.base_laws.proofs.Items.{map_to}
use Rattle.std.proofs.Math.Decide.{ℕ_discrete}
use Rattle.geo_base.specs.Motions.{moved_square}
use Rattle.geo_base.specs.declared.layer.LayerKey.{LayerKey}
use Rattle.geo_base.specs.declared.shapes.Square.{Square}
use Rattle.flat_layout.specs.Arrays.{place_at}
use Rattle.flat_layout.specs.Layout as flat
use Rattle.flat_layout.specs.Layout.{Design, Some_of, IsOwn, IsDisturbed, IsPrefix, InFlatInput, Takes}
use Rattle.flat_layout.specs.Zones.{IsBeside, IsDisturbedAbove}
use Rattle.flat_laws.proofs.Names.{more_left, more_right}
use Rattle.flat_laws.proofs.Shut.{some_either}
use Rattle.flat_laws.proofs.Paths.{first_differs}
use Rattle.flat_laws.proofs.Zone.{zones}
use Rattle.cell_graph.specs.declared.cells.Place.{Place}
use Rattle.cell_graph.specs.Linked.{Linked, IsSound, IsStep, plain, motion_at, reference, places_at, cell_at}
use Rattle.cell_graph.proofs.Elements.{number_of, same_element, same_number}
use Rattle.cell_graph.proofs.Bridge.{own, step_of, placed_of}
use Rattle.cell_context.specs.Over.{IsOver}
use Rattle.cell_context.proofs.Collecting.{one_place}
use Rattle.deep_laws.specs.Zones.{IsFromSibling, IsDisturbedFrom, ArrayZoneLaw, UnionLaw}

abbrev numbered : Linked → ℕ → ℕ → Place → ℕ → ℕ → ℕ
numbered d cell i p row column = number_of (map reference (places_at (cell_at d cell))) i (reference p) row column

same_index : (d : Linked) (cell i row column j row' column' : ℕ) (p r : Place) → IsStep d cell i row column p → IsStep d cell j row' column' r → numbered d cell i p row column ≡ numbered d cell j r row' column' → i ≡ j
same_index d cell i row column j row' column' p r h g e =
    same_number (map reference (places_at (cell_at d cell))) i j (reference p) (reference r) row column row' column'
    (map_to reference (places_at (cell_at d cell)) i p h.there) (map_to reference (places_at (cell_at d cell)) j r g.there) h.row_in h.column_in g.row_in g.column_in e

-- beside the placement: own shapes, other references, other elements of the reference
abbrev Beside : Linked → ℕ → LayerKey → ℕ → Place → ℕ → ℕ → Square → Type 0
Beside d parent key i p row column q = IsOver d parent (Some i) key (moved_square (motion_at p row column) q) ⊎ IsFromSibling d p row column key q

beside_path : (d : Linked) (parent i row column : ℕ) (p : Place) (key : LayerKey) (q : Square) (path : List ℕ) (end : ℕ) (s : Square) → IsSound d → IsStep d parent i row column p
    → Takes (plain d) parent path end s (moved_square (motion_at p row column) q) → IsOwn (plain d) end key s → (IsPrefix (numbered d parent i p row column ∷ []) path → ⊥)
    → Beside d parent key i p row column q
beside_path d parent i row column p key q [] end s sound step takes o apart =
    inl (inl ((own d sound parent key (moved_square (motion_at p row column) q)).0 (subst (λ c. IsOwn (plain d) c key (moved_square (motion_at p row column) q)) (sym takes.0) (subst (λ x. IsOwn (plain d) end key x) takes.1 o))))
beside_path d parent i row column p key q (k ∷ ks) end s sound step (f, placed, r, rest, e) o apart =
    let t = step_of d parent k f placed in
    let lower : InFlatInput (plain d) f.cell key r = record { path = ks; end = end; square = s; takes = rest; own = o } in
    let there : InFlatInput (plain d) t.from.cell key r = subst (λ (x : flat.Place). InFlatInput (plain d) x.cell key r) t.is lower in
    let image : moved_square (motion_at t.from t.row t.column) r ≡ moved_square (motion_at p row column) q = ap (λ (x : flat.Place). moved_square x.motion r) (sym t.is) ∙ e in
    elim (ℕ_discrete t.index i) [
      | no not ↦ inl (inr (record {
        index = t.index;
        row = t.row;
        column = t.column;
        from = t.from;
        step = t.step;
        kept = λ g. not (let h : t.index ≡ i = cc in h);
        square = r;
        flat = there;
        image = image;
      }))
      | yes same ↦
          let at : slice_get (places_at (cell_at d parent)) i ≡ Some t.from = subst (λ j. slice_get (places_at (cell_at d parent)) j ≡ Some t.from) same t.step.there in
          let one : t.from ≡ p = one_place (slice_get (places_at (cell_at d parent)) i) t.from p at step.there in
          inr (record {
            other_row = t.row;
            other_column = t.column;
            row_in = subst (λ (x : Place). t.row < x.rows) one t.step.row_in;
            column_in = subst (λ (x : Place). t.column < x.columns) one t.step.column_in;
            other = λ g. apart (ks, ap (λ j. j ∷ ks) (sym (t.number ∙ ap (λ j. numbered d parent j t.from t.row t.column) same ∙ ap (λ (x : Place). numbered d parent i x t.row t.column) one ∙ ap (λ j. numbered d parent i p j t.column) g.0 ∙ ap (λ j. numbered d parent i p row j) g.1)));
            square = r;
            flat = subst (λ (x : Place). InFlatInput (plain d) x.cell key r) one there;
            image = ap (λ (x : Place). moved_square (motion_at x t.row t.column) r) (sym one) ∙ image;
          })
    ]

key_of : (key k : LayerKey) → Some_of (λ j. j ≡ k) (key ∷ []) → k ≡ key
key_of key k (inl e) = sym e
key_of key k (inr h) = absurd h

from_above : (d : Linked) (cell : ℕ) (key : LayerKey) (q : Square) → IsSound d → IsDisturbedAbove (plain d) (key ∷ []) cell q → IsDisturbedFrom d cell key q
from_above d cell key q sound h =
    let t = step_of d h.parent h.number h.place h.placed in
    let at : moved_square h.place.motion q ≡ moved_square (motion_at t.from t.row t.column) q = ap (λ (x : flat.Place). moved_square x.motion q) t.is in
    record {
      parent = h.parent;
      index = t.index;
      row = t.row;
      column = t.column;
      from = t.from;
      reached = h.reached;
      step = t.step;
      here = ap (λ (x : flat.Place). x.cell) (sym t.is) ∙ h.here;
      why = elim h.why [
        | inl g ↦ inl (subst (λ x. IsDisturbed (plain d) (key ∷ []) h.parent x) at g)
        | inr g ↦ inr (beside_path d h.parent t.index t.row t.column t.from key q g.path g.end g.square sound t.step
            (subst (λ x. Takes (plain d) h.parent g.path g.end g.square x) at g.takes) (subst (λ k. IsOwn (plain d) g.end k g.square) (key_of key g.key g.listed) g.own)
            (λ f. g.apart (f.0, ap (λ j. j ∷ f.0) t.number ∙ f.1)))
      ];
    }

beside_of : (d : Linked) (parent i row column : ℕ) (p : Place) (key : LayerKey) (q : Square) → IsSound d → IsStep d parent i row column p → Beside d parent key i p row column q
    → IsBeside (plain d) (key ∷ []) parent (numbered d parent i p row column) (moved_square (motion_at p row column) q)
beside_of d parent i row column p key q sound step (inl (inl e)) = record {
  path = [];
  end = parent;
  square = moved_square (motion_at p row column) q;
  key = key;
  listed = inl refl;
  takes = (refl, refl);
  own = (own d sound parent key (moved_square (motion_at p row column) q)).1 e;
  apart = λ g. let e : numbered d parent i p row column ∷ g.0 ≡ [] = g.1 in cc;
}
beside_of d parent i row column p key q sound step (inl (inr t)) = record {
  path = numbered d parent t.index t.from t.row t.column ∷ t.flat.path;
  end = t.flat.end;
  square = t.flat.square;
  key = key;
  listed = inl refl;
  takes = (place_at (reference t.from) t.row t.column, placed_of d parent t.index t.row t.column t.from t.step, t.square, t.flat.takes, t.image);
  own = t.flat.own;
  apart = first_differs (numbered d parent t.index t.from t.row t.column) (numbered d parent i p row column) t.flat.path
      (λ e. t.kept (ap Some (sym (same_index d parent t.index t.row t.column i row column t.from p t.step step e))));
}
beside_of d parent i row column p key q sound step (inr t) =
    let there : IsStep d parent i t.other_row t.other_column p = record { there = step.there; row_in = t.row_in; column_in = t.column_in } in
    record {
      path = numbered d parent i p t.other_row t.other_column ∷ t.flat.path;
      end = t.flat.end;
      square = t.flat.square;
      key = key;
      listed = inl refl;
      takes = (place_at (reference p) t.other_row t.other_column, placed_of d parent i t.other_row t.other_column p there, t.square, t.flat.takes, t.image);
      own = t.flat.own;
      apart = first_differs (numbered d parent i p t.other_row t.other_column) (numbered d parent i p row column) t.flat.path
          (λ e. t.other (same_element (reference p) t.other_row t.other_column row column t.column_in step.column_in (let f : numbered d parent i p t.other_row t.other_column ≡ numbered d parent i p row column = e in omega arith)));
    }

to_above : (d : Linked) (cell : ℕ) (key : LayerKey) (q : Square) → IsSound d → IsDisturbedFrom d cell key q → IsDisturbedAbove (plain d) (key ∷ []) cell q
to_above d cell key q sound h = record {
  parent = h.parent;
  number = numbered d h.parent h.index h.from h.row h.column;
  place = place_at (reference h.from) h.row h.column;
  reached = h.reached;
  placed = placed_of d h.parent h.index h.row h.column h.from h.step;
  here = h.here;
  why = elim h.why [ inl g ↦ inl g | inr g ↦ inr (beside_of d h.parent h.index h.row h.column h.from key q sound h.step g) ];
}

pub array_zones : ArrayZoneLaw
array_zones d sound cell key q = (
  (λ h. from_above d cell key q sound ((zones (plain d) (key ∷ []) cell q).0 h)),
  (λ h. (zones (plain d) (key ∷ []) cell q).1 (to_above d cell key q sound h)),
)

listed_in : (d : Design) (keys more : List LayerKey) (cell : ℕ) (q : Square) (h : IsDisturbed d more cell q) → Some_of (λ k. k ≡ h.key) keys → IsDisturbed d keys cell q
listed_in d keys more cell q h l = record { path = h.path; other = h.other; end = h.end; square = h.square; place = h.place; key = h.key; listed = l; takes = h.takes; others = h.others; own = h.own; apart = h.apart }

pub union : UnionLaw
union d xs ys cell q = (
  (λ h. elim (some_either (λ k. k ≡ h.key) xs ys h.listed) [ inl a ↦ inl (listed_in d xs (xs ++ ys) cell q h a) | inr b ↦ inr (listed_in d ys (xs ++ ys) cell q h b) ]),
  (λ h. elim h [
    | inl a ↦ listed_in d (xs ++ ys) xs cell q a (more_left (λ k. k ≡ a.key) xs ys a.listed)
    | inr b ↦ listed_in d (xs ++ ys) ys cell q b (more_right (λ k. k ≡ b.key) xs ys b.listed)
  ]),
)
