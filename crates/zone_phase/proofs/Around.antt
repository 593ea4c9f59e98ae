-- Differences of elements alone decide where siblings lie.
use Rattle.std.proofs.Common.{◌≡◌, ◌⊎◌, inl, inr, ℕ, ℤ, zero, suc, pos, negsuc, ◌+◌, ◌-◌, ◌*◌, ◌<◌, ◌≤◌, ◌+ℤ◌, ◌-ℤ◌, ◌*ℤ◌, refl, sym, ◌∙◌, ap, arith}
use Rattle.std.proofs.lemmas.Int.{ints}
use Rattle.std.proofs.Math.IntN.{pos-*ℤ-pos, pos-*ℤ-negsuc, neg_ℤ}
use Rattle.std.proofs.Math.Nat.{add-mul}
use Rattle.geo_base.specs.Motions.{moved_square, turned_x, turned_y}
use Rattle.geo_base.specs.declared.layer.LayerKey.{LayerKey}
use Rattle.geo_base.specs.declared.shapes.Square.{Square}
use Rattle.flat_layout.specs.Layout.{Some_of}
use Rattle.cell_graph.specs.declared.cells.Place.{Place}
use Rattle.cell_graph.specs.Linked.{Linked, motion_at}
use Rattle.zone_phase.specs.Siblings.{around, siblings, IsBroughtBy, HasSibling, SiblingLaw}

-- an array begun elsewhere, by its shifts one by one
abbrev pub begun : Place → ℕ → ℕ → ℕ → ℕ → ℕ → ℕ → Place
begun p up down right left rows columns =
    around p (record { rows = record { ahead = up; back = down; count = rows }; columns = record { ahead = right; back = left; count = columns } })

pub none_times : (z : ℤ) → pos 0 *ℤ z ≡ pos 0
none_times (pos m) = pos-*ℤ-pos 0 m ∙ ap pos (let e : 0 * m ≡ 0 = omega arith in e)
none_times (negsuc m) = pos-*ℤ-negsuc 0 m ∙ ap (λ k. neg_ℤ (pos k)) (let e : 0 * suc m ≡ 0 = omega arith in e)

minus_pos : (k : ℕ) → neg_ℤ (pos k) ≡ pos 0 -ℤ pos k
minus_pos zero = refl
minus_pos (suc k) = omega (arith, ints)

pub times_sum : (a b : ℕ) (s : ℤ) → pos (a + b) *ℤ s ≡ (pos a *ℤ s) +ℤ (pos b *ℤ s)
times_sum a b (pos m) = let x = pos-*ℤ-pos (a + b) m in let y = pos-*ℤ-pos a m in let z = pos-*ℤ-pos b m in let e = add-mul a b m in omega (arith, ints)
times_sum a b (negsuc m) =
    let x = pos-*ℤ-negsuc (a + b) m ∙ minus_pos ((a + b) * suc m) in let y = pos-*ℤ-negsuc a m ∙ minus_pos (a * suc m) in
    let z = pos-*ℤ-negsuc b m ∙ minus_pos (b * suc m) in let e = add-mul a b (suc m) in omega (arith, ints)

-- steps of equal sums
same_sum : (a b i u v : ℕ) (s : ℤ) → a + v ≡ b + i + u → (pos a *ℤ s) +ℤ (pos v *ℤ s) ≡ ((pos b *ℤ s) +ℤ (pos i *ℤ s)) +ℤ (pos u *ℤ s)
same_sum a b i u v s e =
    sym (times_sum a v s) ∙ ap (λ k. pos k *ℤ s) e ∙ times_sum (b + i) u s ∙ ap (λ z. z +ℤ (pos u *ℤ s)) (times_sum b i s)

-- one coordinate
there : (t q d ac av bc ic uc ar vr br ir ur zc zr : ℤ) → ac +ℤ av ≡ (bc +ℤ ic) +ℤ uc → ar +ℤ vr ≡ (br +ℤ ir) +ℤ ur → zc ≡ pos 0 → zr ≡ pos 0
    → t +ℤ ((d +ℤ ac) +ℤ ar) ≡ q +ℤ ((d +ℤ bc) +ℤ br) → t +ℤ ((((d +ℤ (uc -ℤ av)) +ℤ (ur -ℤ vr)) +ℤ ic) +ℤ ir) ≡ q +ℤ ((d +ℤ zc) +ℤ zr)
there t q d ac av bc ic uc ar vr br ir ur zc zr e f g h k = omega (arith, ints)

back : (t q d ac av bc ic uc ar vr br ir ur zc zr : ℤ) → ac +ℤ av ≡ (bc +ℤ ic) +ℤ uc → ar +ℤ vr ≡ (br +ℤ ir) +ℤ ur → zc ≡ pos 0 → zr ≡ pos 0
    → t +ℤ ((((d +ℤ (uc -ℤ av)) +ℤ (ur -ℤ vr)) +ℤ ic) +ℤ ir) ≡ q +ℤ ((d +ℤ zc) +ℤ zr) → t +ℤ ((d +ℤ ac) +ℤ ar) ≡ q +ℤ ((d +ℤ bc) +ℤ br)
back t q d ac av bc ic uc ar vr br ir ur zc zr e f g h k = omega (arith, ints)

same_square : (a b c e : ℤ) → a ≡ c → b ≡ e → let s : Square = record { x = a; y = b } in let t : Square = record { x = c; y = e } in s ≡ t
same_square a b c e f g =
    ap (λ (v : ℤ). let q : Square = record { x = v; y = b } in q) f ∙ ap (λ (v : ℤ). let q : Square = record { x = c; y = v } in q) g

module _ (p : Place) (up down right left rows columns : ℕ) (or oc row column i j : ℕ) (e : or + down ≡ row + i + up) (f : oc + left ≡ column + j + right) (r q : Square) where
  v : Place
  v = begun p up down right left rows columns

  sums : (s : ℤ) → (pos oc *ℤ s) +ℤ (pos left *ℤ s) ≡ ((pos column *ℤ s) +ℤ (pos j *ℤ s)) +ℤ (pos right *ℤ s)
  sums s = same_sum oc column j right left s f

  row_sums : (s : ℤ) → (pos or *ℤ s) +ℤ (pos down *ℤ s) ≡ ((pos row *ℤ s) +ℤ (pos i *ℤ s)) +ℤ (pos up *ℤ s)
  row_sums s = same_sum or row i up down s e

  pub forth : moved_square (motion_at p or oc) r ≡ moved_square (motion_at p row column) q → moved_square (motion_at (begun p up down right left rows columns) i j) r ≡ moved_square (motion_at p 0 0) q
  forth h = same_square _ _ _ _
      (there (turned_x p.motion.turn r.x r.y) (turned_x p.motion.turn q.x q.y) p.motion.dx _ _ _ _ _ _ _ _ _ _ _ _ (sums p.column_step.x) (row_sums p.row_step.x) (none_times p.column_step.x) (none_times p.row_step.x) (ap (λ (s : Square). s.x) h))
      (there (turned_y p.motion.turn r.x r.y) (turned_y p.motion.turn q.x q.y) p.motion.dy _ _ _ _ _ _ _ _ _ _ _ _ (sums p.column_step.y) (row_sums p.row_step.y) (none_times p.column_step.y) (none_times p.row_step.y) (ap (λ (s : Square). s.y) h))

  pub again : moved_square (motion_at (begun p up down right left rows columns) i j) r ≡ moved_square (motion_at p 0 0) q → moved_square (motion_at p or oc) r ≡ moved_square (motion_at p row column) q
  again h = same_square _ _ _ _
      (back (turned_x p.motion.turn r.x r.y) (turned_x p.motion.turn q.x q.y) p.motion.dx _ _ _ _ _ _ _ _ _ _ _ _ (sums p.column_step.x) (row_sums p.row_step.x) (none_times p.column_step.x) (none_times p.row_step.x) (ap (λ (s : Square). s.x) h))
      (back (turned_y p.motion.turn r.x r.y) (turned_y p.motion.turn q.x q.y) p.motion.dy _ _ _ _ _ _ _ _ _ _ _ _ (sums p.column_step.y) (row_sums p.row_step.y) (none_times p.column_step.y) (none_times p.row_step.y) (ap (λ (s : Square). s.y) h))

pub compared : (a b : ℕ) → (a < b) ⊎ ((a ≡ b) ⊎ (b < a))
compared zero zero = inr (inl refl)
compared zero (suc b) = inl (omega arith)
compared (suc a) zero = inr (inr (omega arith))
compared (suc a) (suc b) = elim (compared a b) [
  | inl h ↦ inl (omega arith)
  | inr g ↦ elim g [ inl e ↦ inr (inl (ap suc e)) | inr h ↦ inr (inr (omega arith)) ]
]

-- a difference of columns as a pair of columns
record Pair (n j : ℕ) : Type 0 where
  other : ℕ
  column : ℕ
  other_in : other < n
  column_in : column < n
  sum : other + (n - 1) ≡ column + j + 0

pair : (n j : ℕ) → j < 2 * n - 1 → Pair n j
pair n j lt = elim (compared j (n - 1)) [
  | inl h ↦ record { other = 0; column = n - 1 - j; other_in = omega arith; column_in = omega arith; sum = omega arith }
  | inr g ↦ let le : n - 1 ≤ j = elim g [ inl e ↦ omega arith | inr h ↦ omega arith ] in
      record { other = j - (n - 1); column = 0; other_in = omega arith; column_in = omega arith; sum = omega arith }
]

outward : (d : Linked) (p : Place) (key : LayerKey) (q : Square) → HasSibling d p key q → Some_of (IsBroughtBy d p key q) (siblings p)
outward d p key q h =
    let s = h.sibling in
    let or = s.other_row in let oc = s.other_column in
    let a1 = h.row_in in let a2 = h.column_in in let b1 = s.row_in in let b2 = s.column_in in
    let n = p.columns in let m = p.rows in
    elim (compared h.row or) [
      | inl lt ↦ inl (record {
        row = or - h.row - 1;
        column = oc + (n - 1) - h.column;
        row_in = omega arith;
        column_in = omega arith;
        square = s.square;
        flat = s.flat;
        image = forth p 1 0 0 (n - 1) (m - 1) (2 * n - 1) or oc h.row h.column (or - h.row - 1) (oc + (n - 1) - h.column) (omega arith) (omega arith) s.square q s.image;
      })
      | inr g ↦ elim g [
        | inr gt ↦ inr (inl (record {
          row = or + (m - 1) - h.row;
          column = oc + (n - 1) - h.column;
          row_in = omega arith;
          column_in = omega arith;
          square = s.square;
          flat = s.flat;
          image = forth p 0 (m - 1) 0 (n - 1) (m - 1) (2 * n - 1) or oc h.row h.column (or + (m - 1) - h.row) (oc + (n - 1) - h.column) (omega arith) (omega arith) s.square q s.image;
        }))
        | inl e ↦ elim (compared h.column oc) [
          | inl lt ↦ inr (inr (inl (record {
            row = 0;
            column = oc - h.column - 1;
            row_in = omega arith;
            column_in = omega arith;
            square = s.square;
            flat = s.flat;
            image = forth p 0 0 1 0 1 (n - 1) or oc h.row h.column 0 (oc - h.column - 1) (omega arith) (omega arith) s.square q s.image;
          })))
          | inr k ↦ elim k [
            | inr gt ↦ inr (inr (inr (inl (record {
              row = 0;
              column = oc + (n - 1) - h.column;
              row_in = omega arith;
              column_in = omega arith;
              square = s.square;
              flat = s.flat;
              image = forth p 0 0 0 (n - 1) 1 (n - 1) or oc h.row h.column 0 (oc + (n - 1) - h.column) (omega arith) (omega arith) s.square q s.image;
            }))))
            | inl f ↦ absurd (s.other (sym e, sym f))
          ]
        ]
      ]
    ]

inward : (d : Linked) (p : Place) (key : LayerKey) (q : Square) → 0 < p.rows → 0 < p.columns → Some_of (IsBroughtBy d p key q) (siblings p) → HasSibling d p key q
inward d p key q some_rows some_columns (inl b) =
    let c = pair p.columns b.column b.column_in in let i = b.row_in in
    record {
      row = 0;
      column = c.column;
      row_in = some_rows;
      column_in = c.column_in;
      sibling = record {
        other_row = b.row + 1;
        other_column = c.other;
        row_in = omega arith;
        column_in = c.other_in;
        other = λ g. let z = g.0 in let y : ⊥ = omega arith in y;
        square = b.square;
        flat = b.flat;
        image = again p 1 0 0 (p.columns - 1) (p.rows - 1) (2 * p.columns - 1) (b.row + 1) c.other 0 c.column b.row b.column (omega arith) c.sum b.square q b.image;
      };
    }
inward d p key q some_rows some_columns (inr (inl b)) =
    let c = pair p.columns b.column b.column_in in let i = b.row_in in
    record {
      row = p.rows - 1 - b.row;
      column = c.column;
      row_in = omega arith;
      column_in = c.column_in;
      sibling = record {
        other_row = 0;
        other_column = c.other;
        row_in = some_rows;
        column_in = c.other_in;
        other = λ g. let z = g.0 in let y : ⊥ = omega arith in y;
        square = b.square;
        flat = b.flat;
        image = again p 0 (p.rows - 1) 0 (p.columns - 1) (p.rows - 1) (2 * p.columns - 1) 0 c.other (p.rows - 1 - b.row) c.column b.row b.column (omega arith) c.sum b.square q b.image;
      };
    }
inward d p key q some_rows some_columns (inr (inr (inl b))) =
    let i = b.row_in in let j = b.column_in in
    record {
      row = 0;
      column = 0;
      row_in = some_rows;
      column_in = some_columns;
      sibling = record {
        other_row = 0;
        other_column = b.column + 1;
        row_in = some_rows;
        column_in = omega arith;
        other = λ g. let z = g.1 in let y : ⊥ = omega arith in y;
        square = b.square;
        flat = b.flat;
        image = again p 0 0 1 0 1 (p.columns - 1) 0 (b.column + 1) 0 0 b.row b.column (omega arith) (omega arith) b.square q b.image;
      };
    }
inward d p key q some_rows some_columns (inr (inr (inr (inl b)))) =
    let i = b.row_in in let j = b.column_in in
    record {
      row = 0;
      column = p.columns - 1 - b.column;
      row_in = some_rows;
      column_in = omega arith;
      sibling = record {
        other_row = 0;
        other_column = 0;
        row_in = some_rows;
        column_in = some_columns;
        other = λ g. let z = g.1 in let y : ⊥ = omega arith in y;
        square = b.square;
        flat = b.flat;
        image = again p 0 0 0 (p.columns - 1) 1 (p.columns - 1) 0 0 0 (p.columns - 1 - b.column) b.row b.column (omega arith) (omega arith) b.square q b.image;
      };
    }
inward d p key q some_rows some_columns (inr (inr (inr (inr b)))) = absurd b

pub sibling : SiblingLaw
sibling d p key q some_rows some_columns = (outward d p key q, inward d p key q some_rows some_columns)
