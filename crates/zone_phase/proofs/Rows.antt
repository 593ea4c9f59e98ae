-- Whole rows, seen from each of their columns, as two arrays: what is left of the first column, and the rest.
use Rattle.std.proofs.Common.{◌≡◌, ◌⊎◌, inl, inr, ℕ, ◌+◌, ◌-◌, ◌*◌, ◌<◌, ℤ, pos, ◌+ℤ◌, ◌-ℤ◌, ◌*ℤ◌, true, List, sym, ◌∙◌, ap, subst, arith}
use Rattle.std.proofs.lemmas.Int.{ints}
use Rattle.geo_base.specs.Motions.{moved_square}
use Rattle.geo_base.specs.Rects.{has}
use Rattle.geo_base.specs.declared.layer.LayerKey.{LayerKey}
use Rattle.geo_base.specs.declared.motion.Motion.{Motion}
use Rattle.geo_base.specs.declared.shapes.Rect.{Rect}
use Rattle.rect_sets.specs.Rects.{covers}
use Rattle.cell_graph.specs.declared.cells.Place.{Place}
use Rattle.cell_graph.specs.Linked.{Linked, motion_at}
use Rattle.zone_phase.specs.Siblings.{IsBroughtTo, Brings}
use Rattle.zone_phase.proofs.Around.{begun, times_sum, none_times, compared}

shift : (d m z u c i r : ℤ) → c ≡ i +ℤ m → z ≡ pos 0 → (((d +ℤ (z -ℤ m)) +ℤ u) +ℤ c) +ℤ r ≡ (((d +ℤ (z -ℤ z)) +ℤ u) +ℤ i) +ℤ r
shift d m z u c i r e f = omega (arith, ints)

module _ (p : Place) (up down rows m n k : ℕ) where
  -- a column of the rows is one of the rest, counted from the first element
  same_motion : (row i : ℕ) → motion_at (begun p up down 0 m rows n) row (i + m) ≡ motion_at (begun p up down 0 0 rows k) row i
  same_motion row i =
      let x = shift p.motion.dx (pos m *ℤ p.column_step.x) (pos 0 *ℤ p.column_step.x) ((pos up *ℤ p.row_step.x) -ℤ (pos down *ℤ p.row_step.x)) (pos (i + m) *ℤ p.column_step.x) (pos i *ℤ p.column_step.x) (pos row *ℤ p.row_step.x)
      (times_sum i m p.column_step.x) (none_times p.column_step.x) in
      let y = shift p.motion.dy (pos m *ℤ p.column_step.y) (pos 0 *ℤ p.column_step.y) ((pos up *ℤ p.row_step.y) -ℤ (pos down *ℤ p.row_step.y)) (pos (i + m) *ℤ p.column_step.y) (pos i *ℤ p.column_step.y) (pos row *ℤ p.row_step.y)
      (times_sum i m p.column_step.y) (none_times p.column_step.y) in
      let a = motion_at (begun p up down 0 m rows n) row (i + m) in
      let b = motion_at (begun p up down 0 0 rows k) row i in
      ap (λ (v : ℤ). let q : Motion = record { turn = p.motion.turn; dx = v; dy = a.dy } in q) x ∙ ap (λ (v : ℤ). let q : Motion = record { turn = p.motion.turn; dx = b.dx; dy = v } in q) y

pub rows_brought : (d : Linked) (p : Place) (key : LayerKey) (window : Rect) (up down rows : ℕ) (old mid new : List Rect) → 0 < p.columns
    → Brings d (begun p up down 0 (p.columns - 1) rows (p.columns - 1)) key window old mid
    → Brings d (begun p up down 0 0 rows p.columns) key window mid new
    → Brings d (begun p up down 0 (p.columns - 1) rows (2 * p.columns - 1)) key window old new
rows_brought d p key window up down rows old mid new some left rest s = (to, from)
  where
    to : covers new s ≡ true → (covers old s ≡ true) ⊎ ((has window s ≡ true) × IsBroughtTo d (begun p up down 0 (p.columns - 1) rows (2 * p.columns - 1)) key s)
    to h = elim ((rest s).0 h) [
      | inl g ↦ elim ((left s).0 g) [
        | inl f ↦ inl f
        | inr (w, b) ↦ let lt = b.column_in in inr (w, record { row = b.row; column = b.column; row_in = b.row_in; column_in = omega arith; square = b.square; flat = b.flat; image = b.image })
      ]
      | inr (w, b) ↦
          let lt = b.column_in in
          inr (
            w,
            record {
              row = b.row;
              column = b.column + (p.columns - 1);
              row_in = b.row_in;
              column_in = omega arith;
              square = b.square;
              flat = b.flat;
              image = ap (λ (m : Motion). moved_square m b.square) (same_motion p up down rows (p.columns - 1) (2 * p.columns - 1) p.columns b.row b.column) ∙ b.image;
            },
          )
    ]

    split : (c : ℕ) → c < 2 * p.columns - 1 → (c < p.columns - 1) ⊎ ((i : ℕ) × (i < p.columns) × (c ≡ i + (p.columns - 1)))
    split c lt = elim (compared c (p.columns - 1)) [
      | inl a ↦ inl a
      | inr a ↦ elim a [ inl e ↦ inr (c - (p.columns - 1), (omega arith), (omega arith)) | inr e ↦ inr (c - (p.columns - 1), (omega arith), (omega arith)) ]
    ]

    from : (covers old s ≡ true) ⊎ ((has window s ≡ true) × IsBroughtTo d (begun p up down 0 (p.columns - 1) rows (2 * p.columns - 1)) key s) → covers new s ≡ true
    from (inl h) = (rest s).1 (inl ((left s).1 (inl h)))
    from (inr (w, b)) = elim (split b.column b.column_in) [
      | inl lt ↦ (rest s).1 (inl ((left s).1 (inr (w, record { row = b.row; column = b.column; row_in = b.row_in; column_in = lt; square = b.square; flat = b.flat; image = b.image }))))
      | inr (i, lt, e) ↦
          let image : moved_square (motion_at (begun p up down 0 (p.columns - 1) rows (2 * p.columns - 1)) b.row (i + (p.columns - 1))) b.square ≡ s =
          subst (λ c. moved_square (motion_at (begun p up down 0 (p.columns - 1) rows (2 * p.columns - 1)) b.row c) b.square ≡ s) e b.image in
          (rest s).1 (inr (
            w,
            record {
              row = b.row;
              column = i;
              row_in = b.row_in;
              column_in = lt;
              square = b.square;
              flat = b.flat;
              image = ap (λ (m : Motion). moved_square m b.square) (sym (same_motion p up down rows (p.columns - 1) (2 * p.columns - 1) p.columns b.row i)) ∙ image;
            },
          ))
    ]
