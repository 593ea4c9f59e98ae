-- The squares of the design with transistors: what each cell draws, and what is flat in it.
use Rattle.std.proofs.Common.{◌≡◌, ◌⊎◌, inl, inr, ℕ, zero, suc, ◌+◌, ◌<◌, List, [], ◌∷◌, Some, slice_get, map, refl, sym, ◌∙◌, ap, subst, arith}
use Rattle.std.proofs.lemmas.Int.{ints}
use Rattle.geo_base.specs.Motions.{moved_square}
use Rattle.geo_base.specs.declared.layer.LayerKey.{LayerKey}
use Rattle.geo_base.specs.declared.shapes.Rect.{Rect}
use Rattle.geo_base.specs.declared.shapes.Square.{Square}
use Rattle.flat_laws.proofs.Squares.{same_square}
use Rattle.flat_layout.specs.Layout.{Place, Layer, Cell, Some_of, IsOwn, IsPlaced, Leads, Takes, IsReached, InFlatInput}
use Rattle.flat_layout.specs.Order.{AreLevels}
use Rattle.flat_layout.specs.Plane.{IsIn}
use Rattle.plain_netlist.specs.Lists.{IsListed}
use Rattle.law_samples.proofs.layout.Right.{none_some}
use Rattle.law_samples.specs.Sample.{sample_level}
use Rattle.law_samples.specs.Transistors.{key_of, at, unit_rect, columns, rects_of, layers_of, child, mirror_place, parent, gate_design}

pub only_at : {A : Type 0} (x y : A) (k : ℕ) → slice_get (x ∷ []) k ≡ Some y → (k ≡ 0) × (y ≡ x)
only_at x y zero e = (refl, (let f : y ≡ x = cc in f))
only_at x y (suc k) e = none_some y e

pub one_place : (cell k : ℕ) (p : Place) → IsPlaced gate_design cell k p → (cell ≡ 1) × (k ≡ 0) × (p ≡ mirror_place)
one_place zero k p (c, e, f) =
    let g : child ≡ c = cc in
    let h : slice_get child.places k ≡ Some p = subst (λ (x : Cell). slice_get x.places k ≡ Some p) (sym g) f in none_some p h
one_place (suc zero) k p (c, e, f) =
    let g : parent ≡ c = cc in
    let h : slice_get parent.places k ≡ Some p = subst (λ (x : Cell). slice_get x.places k ≡ Some p) (sym g) f in
    let r = only_at mirror_place p k h in (refl, r.0, r.1)
one_place (suc (suc n)) k p (c, e, f) = none_some c e

-- the placed cell is the child
pub lower_cell : (cell k : ℕ) (p : Place) → IsPlaced gate_design cell k p → p.cell ≡ 0
lower_cell cell k p placed = ap (λ (x : Place). x.cell) (one_place cell k p placed).2

pub placed_here : IsPlaced gate_design 1 0 mirror_place
placed_here = (parent, refl, refl)

pub no_place : (cell k : ℕ) (p : Place) → cell ≡ 0 → IsPlaced gate_design cell k p → ⊥
no_place cell k p e placed = let f = (one_place cell k p placed).0 in absurd (omega arith)

pub levels : AreLevels gate_design sample_level
levels = record {
  lower = λ cell k p placed.
      let down : sample_level 0 < sample_level 1 = omega arith in
      subst (λ n. sample_level p.cell < sample_level n) (sym (one_place cell k p placed).0) (subst (λ n. sample_level n < sample_level 1) (sym (lower_cell cell k p placed)) down);
  some = some;
}
  where
    some : (cell : ℕ) → (sample_level cell ≡ 0) ⊎ ((k : ℕ) × (p : Place) × IsPlaced gate_design cell k p × (sample_level cell ≡ suc (sample_level p.cell)))
    some zero = inl refl
    some (suc zero) = inr (0, mirror_place, placed_here, refl)
    some (suc (suc n)) = inl refl

pub top_reached : IsReached gate_design 1
top_reached = record { path = []; leads = refl }

leads_two : (from to : ℕ) (ks : List ℕ) → from < 2 → Leads gate_design from ks to → to < 2
leads_two from to [] lt h = omega arith
leads_two from to (k ∷ ks) lt (p, placed, rest) = let e = lower_cell from k p placed in leads_two p.cell to ks (omega arith) rest

-- only two cells are reached
pub reached_two : (cell : ℕ) → IsReached gate_design cell → cell < 2
reached_two cell h = leads_two 1 cell h.path (omega arith) h.leads

-- the placement takes column x to column y
pub moved_column : (p : Place) (x y : ℕ) → p ≡ mirror_place → x + y ≡ 4 → moved_square p.motion (at x) ≡ at y
moved_column p x y e sum = subst (λ (k : Place). moved_square k.motion (at x) ≡ at y) (sym e) (same_square (moved_square mirror_place.motion (at x)) (at y) (omega (arith, ints)) (omega (arith, ints)))

pub in_unit : (q : Square) (x : ℕ) → IsIn q (unit_rect x) → q ≡ at x
in_unit q x (a, b, c, d) = same_square q (at x) (omega (arith, ints)) (omega (arith, ints))

pub unit_in : (x : ℕ) → IsIn (at x) (unit_rect x)
unit_in x = (omega (arith, ints), omega (arith, ints), omega (arith, ints), omega (arith, ints))

pub one_column : (x y : ℕ) → at x ≡ at y → x ≡ y
one_column x y e = let f = ap (λ (q : Square). q.x) e in omega (arith, ints)

pub some_column : (q : Square) (xs : List ℕ) → Some_of (IsIn q) (map unit_rect xs) → (x : ℕ) × IsListed x xs × (q ≡ at x)
some_column q [] h = absurd h
some_column q (x ∷ xs) (inl h) = (x, inl refl, in_unit q x h)
some_column q (x ∷ xs) (inr h) = let s = some_column q xs h in (s.0, inr s.1, s.2)

column_some : (x : ℕ) (xs : List ℕ) → IsListed x xs → Some_of (IsIn (at x)) (map unit_rect xs)
column_some x [] h = absurd h
column_some x (y ∷ ys) (inl e) = inl (subst (λ k. IsIn (at x) (unit_rect k)) e (unit_in x))
column_some x (y ∷ ys) (inr h) = inr (column_some x ys h)

pub rect_column : (xs : List ℕ) (r : ℕ) (rect : Rect) → slice_get (map unit_rect xs) r ≡ Some rect → (x : ℕ) × IsListed x xs × (rect ≡ unit_rect x)
rect_column [] r rect e = none_some rect e
rect_column (x ∷ xs) zero rect e = (x, inl refl, (let f : rect ≡ unit_rect x = cc in f))
rect_column (x ∷ xs) (suc r) rect e = let s = rect_column xs r rect e in (s.0, inr s.1, s.2)

pub column_rect : (x : ℕ) (xs : List ℕ) → IsListed x xs → (r : ℕ) × (slice_get (map unit_rect xs) r ≡ Some (unit_rect x))
column_rect x [] h = absurd h
column_rect x (y ∷ ys) (inl e) = (0, ap (λ k. Some (unit_rect k)) (sym e))
column_rect x (y ∷ ys) (inr h) = let s = column_rect x ys h in (suc s.0, s.1)

one_key : (a b : ℕ) → key_of a ≡ key_of b → a ≡ b
one_key a b e = ap (λ (k : LayerKey). k.layer) e

-- a square of the cell's layer on a conductor lies in its rectangles
in_layers : (cell c : ℕ) (q : Square) → c < 2 → Some_of (λ (l : Layer). (l.key ≡ key_of c) × Some_of (IsIn q) l.rects) (layers_of cell) → Some_of (IsIn q) (rects_of cell c)
in_layers cell zero q lt (inl (e, i)) = i
in_layers cell zero q lt (inr (inl (e, i))) = let f = one_key 1 0 e in absurd (omega arith)
in_layers cell zero q lt (inr (inr n)) = absurd n
in_layers cell (suc zero) q lt (inl (e, i)) = let f = one_key 0 1 e in absurd (omega arith)
in_layers cell (suc zero) q lt (inr (inl (e, i))) = i
in_layers cell (suc zero) q lt (inr (inr n)) = absurd n
in_layers cell (suc (suc c)) q lt h = absurd (omega arith)

of_layers : (cell c : ℕ) (q : Square) → c < 2 → Some_of (IsIn q) (rects_of cell c) → Some_of (λ (l : Layer). (l.key ≡ key_of c) × Some_of (IsIn q) l.rects) (layers_of cell)
of_layers cell zero q lt i = inl (refl, i)
of_layers cell (suc zero) q lt i = inr (inl (refl, i))
of_layers cell (suc (suc c)) q lt h = absurd (omega arith)

pub own_column : (cell c : ℕ) (q : Square) → c < 2 → IsOwn gate_design cell (key_of c) q → (x : ℕ) × IsListed x (columns cell c) × (q ≡ at x)
own_column zero c q lt (x, e, h) =
    let g : x ≡ child = cc in
    some_column q (columns 0 c) (in_layers 0 c q lt (subst (λ (k : Cell). Some_of (λ (l : Layer). (l.key ≡ key_of c) × Some_of (IsIn q) l.rects) k.layers) g h))
own_column (suc zero) c q lt (x, e, h) =
    let g : x ≡ parent = cc in
    some_column q (columns 1 c) (in_layers 1 c q lt (subst (λ (k : Cell). Some_of (λ (l : Layer). (l.key ≡ key_of c) × Some_of (IsIn q) l.rects) k.layers) g h))
own_column (suc (suc n)) c q lt (x, e, h) = none_some x e

pub column_own : (cell c x : ℕ) → c < 2 → IsListed x (columns cell c) → IsOwn gate_design cell (key_of c) (at x)
column_own zero c x lt h = (child, refl, of_layers 0 c (at x) lt (column_some x (columns 0 c) h))
column_own (suc zero) c x lt h = (parent, refl, of_layers 1 c (at x) lt (column_some x (columns 1 c) h))
column_own (suc (suc n)) c x lt h = absurd h

-- a column of the cell or, in the parent, one where a column of the child comes to stand
abbrev pub IsFlatColumn : ℕ → ℕ → ℕ → Type 0
IsFlatColumn cell c y = IsListed y (columns cell c) ⊎ ((cell ≡ 1) × (x : ℕ) × (x + y ≡ 4) × IsListed x (columns 0 c))

opposite : (c x : ℕ) → IsListed x (columns 0 c) → (y : ℕ) × (x + y ≡ 4)
opposite zero x (inl e) = (4, omega arith)
opposite zero x (inr (inl e)) = (3, omega arith)
opposite zero x (inr (inr (inl e))) = (2, omega arith)
opposite zero x (inr (inr (inr (inl e)))) = (1, omega arith)
opposite zero x (inr (inr (inr (inr n)))) = absurd n
opposite (suc zero) x (inl e) = (3, omega arith)
opposite (suc zero) x (inr n) = absurd n
opposite (suc (suc c)) x h = absurd h

flat_by : (cell c : ℕ) (q s : Square) (path : List ℕ) (end : ℕ) → c < 2 → Takes gate_design cell path end s q → IsOwn gate_design end (key_of c) s → (x : ℕ) × IsFlatColumn cell c x × (q ≡ at x)
flat_by cell c q s [] end lt takes own =
    let h = own_column end c s lt own in
    (h.0, inl (subst (λ k. IsListed h.0 (columns k c)) (sym takes.0) h.1), sym takes.1 ∙ h.2)
flat_by cell c q s (k ∷ []) end lt (p, placed, r, rest, e) own =
    let one = one_place cell k p placed in
    let h = own_column end c s lt own in
    let low : end ≡ 0 = sym rest.0 ∙ lower_cell cell k p placed in
    let listed : IsListed h.0 (columns 0 c) = subst (λ j. IsListed h.0 (columns j c)) low h.1 in
    let y = opposite c h.0 listed in
    (y.0, inr (one.0, h.0, y.1, listed), sym e ∙ ap (moved_square p.motion) (sym rest.1 ∙ h.2) ∙ moved_column p h.0 y.0 one.2 y.1)
flat_by cell c q s (k ∷ (j ∷ js)) end lt (p, placed, r, rest, e) own = absurd (no_place p.cell j rest.0 (lower_cell cell k p placed) rest.1)

pub flat_column : (cell c : ℕ) (q : Square) → c < 2 → InFlatInput gate_design cell (key_of c) q → (x : ℕ) × IsFlatColumn cell c x × (q ≡ at x)
flat_column cell c q lt h = flat_by cell c q h.square h.path h.end lt h.takes h.own

pub column_flat : (cell c x : ℕ) → c < 2 → IsListed x (columns cell c) → InFlatInput gate_design cell (key_of c) (at x)
column_flat cell c x lt h = record { path = []; end = cell; square = at x; takes = (refl, refl); own = column_own cell c x lt h }

pub column_above : (c x y : ℕ) → c < 2 → x + y ≡ 4 → IsListed x (columns 0 c) → InFlatInput gate_design 1 (key_of c) (at y)
column_above c x y lt sum h = record { path = 0 ∷ []; end = 0; square = at x; takes = (mirror_place, placed_here, at x, (refl, refl), moved_column mirror_place x y refl sum); own = column_own 0 c x lt h }

poly_listed : (cell x : ℕ) → IsListed x (columns cell 1) → x ≡ 1
poly_listed zero x (inl e) = e
poly_listed zero x (inr n) = absurd n
poly_listed (suc zero) x (inl e) = e
poly_listed (suc zero) x (inr n) = absurd n
poly_listed (suc (suc n)) x h = absurd h

-- poly stands in column 1 and, in the parent, in column 3
pub poly_at : (cell : ℕ) (q : Square) → InFlatInput gate_design cell (key_of 1) q → (q ≡ at 1) ⊎ ((cell ≡ 1) × (q ≡ at 3))
poly_at cell q h = of_column (flat_column cell 1 q (omega arith) h)
  where
    of_column : (x : ℕ) × IsFlatColumn cell 1 x × (q ≡ at x) → (q ≡ at 1) ⊎ ((cell ≡ 1) × (q ≡ at 3))
    of_column (x, inl l, e) = inl (e ∙ ap at (poly_listed cell x l))
    of_column (x, inr (one, z, sum, l), e) = let f = poly_listed 0 z l in let g : x ≡ 3 = omega arith in inr (one, e ∙ ap at g)

pub no_poly : (cell x : ℕ) → (x ≡ 1 → ⊥) → (x ≡ 3 → ⊥) → InFlatInput gate_design cell (key_of 1) (at x) → ⊥
no_poly cell x one three h = elim (poly_at cell (at x) h) [ inl e ↦ one (one_column x 1 e) | inr f ↦ three (one_column x 3 f.1) ]

pub child_poly : InFlatInput gate_design 0 (key_of 1) (at 1)
child_poly = column_flat 0 1 1 (omega arith) (inl refl)

pub parent_poly : InFlatInput gate_design 1 (key_of 1) (at 1)
parent_poly = column_flat 1 1 1 (omega arith) (inl refl)

pub poly_above : InFlatInput gate_design 1 (key_of 1) (at 3)
poly_above = column_above 1 1 3 (omega arith) refl (inl refl)
