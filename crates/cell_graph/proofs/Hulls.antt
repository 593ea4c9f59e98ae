-- The points of a cell's hull, by its placements; bounds of cells from below.
use Rattle.std.proofs.Common.{◌≡◌, ◌⊎◌, inl, inr, ℕ, zero, suc, ◌<◌, ◌^◌, ℤ, pos, ◌+ℤ◌, ◌-ℤ◌, ◌*ℤ◌, ◌≤ℤ◌, int_le, Bool, true, false, List, [], ◌∷◌, Option, Some, None, MatchOption, slice_get, refl, sym, ◌∙◌, ap, subst, arith}
use Rattle.std.proofs.lemmas.Int.{ints}
use Rattle.geo_base.specs.Motions.{moved_point}
use Rattle.geo_base.specs.Near.{IsWithin}
use Rattle.geo_base.specs.declared.motion.Motion.{Motion}
use Rattle.geo_base.specs.declared.shapes.Point.{Point}
use Rattle.flat_layout.specs.Layout.{Some_of}
use Rattle.cell_graph.specs.declared.cells.OwnLayer.{OwnLayer}
use Rattle.cell_graph.specs.declared.cells.RawText.{RawText}
use Rattle.cell_graph.specs.declared.cells.Place.{Place}
use Rattle.cell_graph.specs.Linked.{IsPointWithin, motion_at}
use Rattle.cell_graph.specs.declared.bounds.Bounds.{Bounds}
use Rattle.cell_graph.specs.declared.drafts.DraftRef.{DraftRef}
use Rattle.cell_graph.specs.declared.drafts.CellDraft.{CellDraft}
use Rattle.cell_graph.specs.Drafts.{IsElementOf, element_motion, IsCorner, IsOrigin, IsPointBy, IsHullPoint, IsFar, HasNoRepeat, IsResolved, AreAllResolved}
use Rattle.cell_graph.specs.Sides.{Side, Left, Low, Right, High, value, side_of, Holds, Widens, AreNear, AreNearIfAny, IsCornerPoint}
use Rattle.cell_graph.specs.Extents.{found_at, IsFarAway, CellPoint, IsCellBounds, IsCellFar, IsBoundsOf}
use Rattle.cell_graph.proofs.Resolving.{at_too, one_named}
use Rattle.cell_graph.proofs.Turned.{turned_side, shift, moved_value, corner, corner_value, corner_is, corner_in}
use Rattle.cell_graph.proofs.Widening.{swapped}

pub some_among : {A : Type 0} (P : A → Type 0) (xs : List A) → Some_of P xs → (k : ℕ) × (x : A) × (slice_get xs k ≡ Some x) × P x
some_among P [] h = absurd h
some_among P (x ∷ xs) (inl h) = (0, x, refl, h)
some_among P (x ∷ xs) (inr h) = let r = some_among P xs h in (suc r.0, r.1, r.2, r.3)

pub among_some : {A : Type 0} (P : A → Type 0) (xs : List A) (k : ℕ) (x : A) → slice_get xs k ≡ Some x → P x → Some_of P xs
among_some P [] k x e h = let f : None ≡ Some x = e in absurd (let z : ⊥ = cc in z)
among_some P (y ∷ xs) zero x e h = let f : y ≡ x = (let g : Some y ≡ Some x = e in cc) in inl (subst P (sym f) h)
among_some P (y ∷ xs) (suc k) x e h = inr (among_some P xs k x e h)

-- an element of a placement
pub record IsPartElement (places : List Place) (m : Motion) (j : ℕ) : Type 0 where
  pub index : ℕ
  pub place : Place
  pub there : slice_get places index ≡ Some place
  pub cell_is : place.cell ≡ j
  pub row : ℕ
  pub column : ℕ
  pub in_rows : row < place.rows
  pub in_columns : column < place.columns
  pub is : motion_at place row column ≡ m

abbrev moved_by : Motion → Point → Point → ℕ → ℕ → Motion
moved_by m a b row column = record {
  turn = m.turn;
  dx = (m.dx +ℤ (pos column *ℤ a.x)) +ℤ (pos row *ℤ b.x);
  dy = (m.dy +ℤ (pos column *ℤ a.y)) +ℤ (pos row *ℤ b.y);
}

same_motion : (cells : List CellDraft) (r : DraftRef) (p : Place) (row column : ℕ) → IsResolved cells r p → motion_at p row column ≡ element_motion r row column
same_motion cells r p row column is =
    ap (λ m. moved_by m p.column_step p.row_step row column) is.motion
    ∙ ap (λ a. moved_by r.motion a p.row_step row column) is.column_step
    ∙ ap (λ b. moved_by r.motion r.column_step b row column) is.row_step

pub element_from : (cells : List CellDraft) (i : ℕ) (c : CellDraft) (places : List Place) (m : Motion) (j : ℕ) → HasNoRepeat cells → slice_get cells i ≡ Some c → AreAllResolved cells c.refs.items places
    → IsElementOf cells i m j → IsPartElement places m j
element_from cells i c places m j once there all e =
    let same : e.has.cell ≡ c = (let f : Some e.has.cell ≡ Some c = sym e.has.there ∙ there in cc) in
    let ref : slice_get c.refs.items e.number ≡ Some e.ref = subst (λ (d : CellDraft). slice_get d.refs.items e.number ≡ Some e.ref) same e.has.ref in
    let p = at_too c.refs.items places e.number e.ref (sym all.count) ref in
    let is = all.each e.number e.ref p.0 ref p.1 in
    record {
      index = e.number;
      place = p.0;
      there = p.1;
      cell_is = one_named cells once e.ref.cell p.0.cell j is.names e.names;
      row = e.row;
      column = e.column;
      in_rows = subst (λ n. e.row < n) (sym is.rows) e.row_in;
      in_columns = subst (λ n. e.column < n) (sym is.columns) e.column_in;
      is = same_motion cells e.ref p.0 e.row e.column is ∙ e.is;
    }

pub element_to : (cells : List CellDraft) (i : ℕ) (c : CellDraft) (places : List Place) (k : ℕ) (p : Place) (row column : ℕ) → slice_get cells i ≡ Some c → AreAllResolved cells c.refs.items places
    → slice_get places k ≡ Some p → row < p.rows → column < p.columns → IsElementOf cells i (motion_at p row column) p.cell
element_to cells i c places k p row column there all at in_rows in_columns =
    let r = at_too places c.refs.items k p all.count at in
    let is = all.each k r.0 p r.1 at in
    record {
      number = k;
      ref = r.0;
      has = record { cell = c; there = there; ref = r.1 };
      names = is.names;
      row = row;
      column = column;
      row_in = subst (λ n. row < n) is.rows in_rows;
      column_in = subst (λ n. column < n) is.columns in_columns;
      is = sym (same_motion cells r.0 p row column is);
    }

add_le : (a b c : ℤ) → a ≤ℤ b → (a +ℤ c) ≤ℤ (b +ℤ c)
add_le a b c h = omega (arith, ints)

le_all : (a b c d : ℤ) → a ≤ℤ b → b ≡ c → c ≤ℤ d → a ≤ℤ d
le_all a b c d h e g = omega (arith, ints)

-- images of what bounds hold are held where those of the corners are
pub image_held : (inner b : Option Bounds) (m : Motion) (q : Point) → Holds inner q
    → ((c : Point) → IsCornerPoint inner c → Holds b (moved_point m c)) → Holds b (moved_point m q)
image_held None b m q h corners = absurd h
image_held (Some g) None m q h corners = absurd (corners (corner Left g) (corner_is Left g))
image_held (Some g) (Some b) m q h corners = λ s.
    let t = turned_side m.turn s in
    let at : side_of s b ≤ℤ value s (moved_point m (corner t g)) = corners (corner t g) (corner_is t g) s in
    let inside : side_of t g ≤ℤ value t q = h t in
    let le : value t (corner t g) ≤ℤ value t q = subst (λ z. z ≤ℤ value t q) (sym (corner_value t g)) inside in
    subst (λ z. side_of s b ≤ℤ z) (sym (moved_value m s q))
    (le_all (side_of s b) (value s (moved_point m (corner t g))) (value t (corner t g) +ℤ shift s m) (value t q +ℤ shift s m) at (moved_value m s (corner t g)) (add_le (value t (corner t g)) (value t q) (shift s m) le))

-- and sides of images of corners are reached
pub image_reached : (Q : Point → Type 0) (inner : Option Bounds) (m : Motion) (c : Point) (s : Side) → Widens None Q inner → IsCornerPoint inner c
    → (p : Point) × Q p × (value s (moved_point m p) ≤ℤ value s (moved_point m c))
image_reached Q None m c s least h = absurd h
image_reached Q (Some g) m c s least h =
    let t = turned_side m.turn s in
    let far : (p : Point) × Q p × (value t p ≡ side_of t g) = elim (least.sides t g refl) [ inl f ↦ absurd f | inr f ↦ f ] in
    let le : value t far.0 ≤ℤ value t c = subst (λ z. z ≤ℤ value t c) (sym far.2) (corner_in Q g least c h t) in
    (far.0, far.1, subst (λ z. z ≤ℤ value s (moved_point m c)) (sym (moved_value m s far.0)) (subst (λ z. (value t far.0 +ℤ shift s m) ≤ℤ z) (sym (moved_value m s c)) (add_le (value t far.0) (value t c) (shift s m) le)))

same_le : (z : ℤ) → z ≤ℤ z
same_le z = omega (arith, ints)

abbrev pub HaveChildren : List CellDraft → List Place → List (Option Bounds) → Type 0
HaveChildren cells places found = (k : ℕ) (p : Place) → slice_get places k ≡ Some p → Widens None (IsHullPoint cells p.cell) (found_at found p.cell)

-- a cell's bounds are those of its hull's points
pub cell_least : (cells : List CellDraft) (i : ℕ) (c : CellDraft) (places : List Place) (found : List (Option Bounds)) (b : Option Bounds) → HasNoRepeat cells → slice_get cells i ≡ Some c
    → AreAllResolved cells c.refs.items places → HaveChildren cells places found → Widens None (CellPoint c places found) b → Widens None (IsHullPoint cells i) b
cell_least cells i c places found b once there all children least =
    swapped None b (CellPoint c places found) (IsHullPoint cells i) least (λ p (n, h). held n p h) (λ q h s. reached q h s)
  where
    the_cell : (d : CellDraft) → slice_get cells i ≡ Some d → d ≡ c
    the_cell d e = let f : Some d ≡ Some c = sym e ∙ there in cc

    held : (n : ℕ) (p : Point) → IsPointBy cells n i p → Holds b p
    held zero p (inl (d, e, h)) =
        let o = some_among (λ (l : OwnLayer). Some_of (λ r. IsCorner r p) l.set) d.layers.items h in
        let r = some_among (λ r. IsCorner r p) o.1.set o.3 in
        least.holds p (inl (inl (o.0, o.1, subst (λ (x : CellDraft). slice_get x.layers.items o.0 ≡ Some o.1) (the_cell d e) o.2, (r.0, r.1, r.2, r.3))))
    held zero p (inr (inl (d, e, h))) =
        let o = some_among (λ (t : RawText). t.at ≡ p) d.texts.items h in
        least.holds p (inl (inr (o.0, o.1, subst (λ (x : CellDraft). slice_get x.texts.items o.0 ≡ Some o.1) (the_cell d e) o.2, o.3)))
    held zero p (inr (inr (m, j, e, h))) =
        let f = element_from cells i c places m j once there all e in
        least.holds p (inr (f.index, f.place, f.there, (f.row, f.column, f.in_rows, f.in_columns, inl (subst (λ m. IsOrigin m p) (sym f.is) h))))
    held (suc n) p (m, j, e, q, h, is) =
        let f = element_from cells i c places m j once there all e in
        let m' = motion_at f.place f.row f.column in
        let q_in : IsHullPoint cells f.place.cell q = subst (λ k. IsHullPoint cells k q) (sym f.cell_is) (n, h) in
        let g = image_held (found_at found f.place.cell) b m' q ((children f.index f.place f.there).holds q q_in)
        (λ d is_corner. least.holds (moved_point m' d) (inr (f.index, f.place, f.there, (f.row, f.column, f.in_rows, f.in_columns, inr (d, is_corner, refl))))) in
        subst (Holds b) (ap (λ m. moved_point m q) f.is ∙ is) g

    reached : (q : Point) → CellPoint c places found q → (s : Side) → (p : Point) × IsHullPoint cells i p × (value s p ≤ℤ value s q)
    reached q (inl (inl (k, l, e, (k', r, e', h)))) s =
        (q, (0, inl (c, there, among_some (λ (l : OwnLayer). Some_of (λ r. IsCorner r q) l.set) c.layers.items k l e (among_some (λ r. IsCorner r q) l.set k' r e' h))), same_le (value s q))
    reached q (inl (inr (k, t, e, h))) s = (q, (0, inr (inl (c, there, among_some (λ (t : RawText). t.at ≡ q) c.texts.items k t e h))), same_le (value s q))
    reached q (inr (k, p, e, (row, column, in_rows, in_columns, inl h))) s =
        (q, (0, inr (inr (motion_at p row column, p.cell, element_to cells i c places k p row column there all e in_rows in_columns, h))), same_le (value s q))
    reached q (inr (k, p, e, (row, column, in_rows, in_columns, inr (d, is_corner, is)))) s =
        let m = motion_at p row column in
        let r = image_reached (IsHullPoint cells p.cell) (found_at found p.cell) m d s (children k p e) is_corner in
        let n = r.1 in
        (moved_point m r.0, (suc n.0, (m, p.cell, element_to cells i c places k p row column there all e in_rows in_columns, r.0, n.1, refl)), subst (λ v. value s (moved_point m r.0) ≤ℤ value s v) is r.2)

-- which side is out of range
within_or : (z : ℤ) → IsWithin (2 ^ 36) z ⊎ (IsWithin (2 ^ 36) z → ⊥)
within_or z = by (int_le (pos 0 -ℤ pos (2 ^ 36)) z) (int_le z (pos (2 ^ 36))) refl refl
  where
    by : (a b : Bool) → int_le (pos 0 -ℤ pos (2 ^ 36)) z ≡ a → int_le z (pos (2 ^ 36)) ≡ b → IsWithin (2 ^ 36) z ⊎ (IsWithin (2 ^ 36) z → ⊥)
    by true true e f = inl (record { low = grind (arith, ints); high = grind (arith, ints) })
    by false b e f = inr (λ h. let l = h.low in let z : ⊥ = grind (arith, ints) in z)
    by true false e f = inr (λ h. let l = h.high in let z : ⊥ = grind (arith, ints) in z)

far_point : (P : Point → Type 0) (b : Bounds) → Widens None P (Some b) → (AreNear b → ⊥) → (p : Point) × P p × (IsPointWithin (2 ^ 36) p → ⊥)
far_point P b least far = by (within_or b.x1) (within_or b.y1) (within_or b.x2) (within_or b.y2)
  where
    side : (s : Side) → (q : Point) × P q × (value s q ≡ side_of s b)
    side s = elim (least.sides s b refl) [ inl f ↦ absurd f | inr f ↦ f ]

    back : (x y : ℤ) → pos 0 -ℤ x ≡ pos 0 -ℤ y → x ≡ y
    back x y e = omega (arith, ints)

    by : IsWithin (2 ^ 36) b.x1 ⊎ (IsWithin (2 ^ 36) b.x1 → ⊥) → IsWithin (2 ^ 36) b.y1 ⊎ (IsWithin (2 ^ 36) b.y1 → ⊥)
        → IsWithin (2 ^ 36) b.x2 ⊎ (IsWithin (2 ^ 36) b.x2 → ⊥) → IsWithin (2 ^ 36) b.y2 ⊎ (IsWithin (2 ^ 36) b.y2 → ⊥) → (p : Point) × P p × (IsPointWithin (2 ^ 36) p → ⊥)
    by (inr f) y z w = let q = side Left in (q.0, q.1, (λ near. f (subst (IsWithin (2 ^ 36)) q.2 near.x)))
    by (inl a) (inr f) z w = let q = side Low in (q.0, q.1, (λ near. f (subst (IsWithin (2 ^ 36)) q.2 near.y)))
    by (inl a) (inl c) (inr f) w = let q = side Right in (q.0, q.1, (λ near. f (subst (IsWithin (2 ^ 36)) (back q.0.x b.x2 q.2) near.x)))
    by (inl a) (inl c) (inl d) (inr f) = let q = side High in (q.0, q.1, (λ near. f (subst (IsWithin (2 ^ 36)) (back q.0.y b.y2 q.2) near.y)))
    by (inl a) (inl c) (inl d) (inl e) = absurd (far (record { x1 = a; y1 = c; x2 = d; y2 = e }))

pub cell_far : (cells : List CellDraft) (i : ℕ) (c : CellDraft) (places : List Place) (found : List (Option Bounds)) → HasNoRepeat cells → slice_get cells i ≡ Some c
    → AreAllResolved cells c.refs.items places → HaveChildren cells places found → IsCellFar c places found → IsFar cells i
cell_far cells i c places found once there all children (inl (k, p, e, inl (row, column, in_rows, in_columns, far))) =
    let m = motion_at p row column in
    (record { x = m.dx; y = m.dy }, (0, inr (inr (m, p.cell, element_to cells i c places k p row column there all e in_rows in_columns, (refl, refl)))), (λ near. far near.x))
cell_far cells i c places found once there all children (inl (k, p, e, inr (row, column, in_rows, in_columns, far))) =
    let m = motion_at p row column in
    (record { x = m.dx; y = m.dy }, (0, inr (inr (m, p.cell, element_to cells i c places k p row column there all e in_rows in_columns, (refl, refl)))), (λ near. far near.y))
cell_far cells i c places found once there all children (inr (None, least, far)) = absurd far
cell_far cells i c places found once there all children (inr (Some b, least, far)) = far_point (IsHullPoint cells i) b (cell_least cells i c places found (Some b) once there all children least) far

pub not_far : (cells : List CellDraft) (i : ℕ) (b : Option Bounds) → IsBoundsOf cells i b → IsFar cells i → ⊥
not_far cells i None h (p, at, far) = h.least.holds p at
not_far cells i (Some b) h (p, at, far) =
    let in_b = h.least.holds p at in
    let a = in_b Left in let c = in_b Low in let d = in_b Right in let e = in_b High in
    let n = h.near in
    let x1 = n.x1.low in let x2 = n.x2.high in let y1 = n.y1.low in let y2 = n.y2.high in
    far (record {
      x = record { low = omega (arith, ints); high = omega (arith, ints) };
      y = record { low = omega (arith, ints); high = omega (arith, ints) };
    })

pub near_or_far : (c : CellDraft) (places : List Place) (found : List (Option Bounds)) (all : Option Bounds) (r : Option (Option Bounds)) → Widens None (CellPoint c places found) all
    → MatchOption r (IsFarAway all) (λ b. (b ≡ all) × AreNearIfAny b) → MatchOption r (IsCellFar c places found) (IsCellBounds c places found)
near_or_far c places found all None least h = inr (all, least, h)
near_or_far c places found all (Some b) least h = record { least = subst (Widens None (CellPoint c places found)) (sym h.0) least; near = h.1 }
