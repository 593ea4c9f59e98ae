-- Collecting what visits bring.
use Rattle.std.proofs.Common.{◌≡◌, inl, inr, ℕ, ℤ, suc, pos, negsuc, ◌*ℤ◌, ◌+ℤ◌, ◌*◌, ◌<◌, ◌+◌, ◌^◌, List, [], ◌∷◌, ◌++◌, Option, Some, None, Bool, true, false, ◌&&◌, ◌||◌, slice_get, slice_index_or, length, take, not, refl, sym, ◌∙◌, ap, subst, arith}
use Rattle.base_laws.proofs.Tests.{or_assoc, or_false}
use Rattle.std.proofs.lemmas.Bool.{and_parts}
use Rattle.std.specs.List.{All}
use Rattle.std.proofs.lemmas.Int.{ints}
use Rattle.std.proofs.Math.IntN.{pos-*ℤ-pos, pos-*ℤ-negsuc, neg_ℤ}
use Rattle.std.proofs.lemmas.List.{take_more}
use Rattle.std.proofs.lemmas.Option.{slice_get-get_or}
use Rattle.std.specs.Option.{option_eq}
use Rattle.std.proofs.Math.Dec.{eqb}
use Rattle.std.proofs.lemmas.Bool.Decides.{eqb_tells}
use Rattle.geo_base.specs.Near.{IsWithin}
use Rattle.geo_base.specs.Motions.{moved_square}
use Rattle.geo_base.specs.Rects.{has, grown}
use Rattle.geo_base.specs.declared.shapes.Rect.{Rect}
use Rattle.geo_base.specs.declared.shapes.Square.{Square}
use Rattle.rect_sets.specs.Rects.{covers}
use Rattle.flat_layout.specs.Layout.{Some_of}
use Rattle.cell_graph.specs.declared.cells.Place.{Place}
use Rattle.cell_graph.specs.Grown.{IsInGrown}
use Rattle.cell_graph.specs.Linked.{Linked, IsSound, IsStep, IsHull, IsFrame, HullIsSound, HullHas, hull_of, cell_at, places_at, motion_at}
use Rattle.cell_graph.proofs.Bridge.{reference_at, hull_sound}
use Rattle.cell_context.specs.declared.arrays.Visit.{Visit}
use Rattle.cell_context.specs.Arrays.{IsNearArray, IsCloseArray, shift_x, shift_y}
use Rattle.cell_context.specs.Visits.{IsElementVisit, IsVisited}
use Rattle.cell_context.specs.Over.{IsVisit, AreVisitedOf}
use Rattle.cell_context.proofs.Visiting.{wider, wider_rect}

none_times : (z : ℤ) → pos 0 *ℤ z ≡ pos 0
none_times (pos m) = pos-*ℤ-pos 0 m ∙ ap pos (let e : 0 * m ≡ 0 = omega arith in e)
none_times (negsuc m) = pos-*ℤ-negsuc 0 m ∙ ap (λ k. neg_ℤ (pos k)) (let e : 0 * suc m ≡ 0 = omega arith in e)

start_within : (a b c z : ℤ) → z ≡ (a +ℤ b) +ℤ c → b ≡ pos 0 → c ≡ pos 0 → IsWithin (2 ^ 36) z → IsWithin (2 ^ 36) a
start_within a b c z e f g h = let l = h.low in let u = h.high in record { low = omega (arith, ints); high = omega (arith, ints) }

first_within : (a b c z : ℤ) → z ≡ (a +ℤ b) +ℤ c → c ≡ pos 0 → IsWithin (2 ^ 36) a → IsWithin (2 ^ 36) z → IsWithin (2 ^ 37) b
first_within a b c z e g h i = let l = h.low in let u = h.high in let l' = i.low in let u' = i.high in record { low = omega (arith, ints); high = omega (arith, ints) }

second_within : (a b c z : ℤ) → z ≡ (a +ℤ b) +ℤ c → b ≡ pos 0 → IsWithin (2 ^ 36) a → IsWithin (2 ^ 36) z → IsWithin (2 ^ 37) c
second_within a b c z e g h i = let l = h.low in let u = h.high in let l' = i.low in let u' = i.high in record { low = omega (arith, ints); high = omega (arith, ints) }

pub close_array : (d : Linked) (cell i : ℕ) (p : Place) → IsSound d → slice_get (places_at (cell_at d cell)) i ≡ Some p → IsCloseArray p
close_array d cell i p sound there =
    let r = (reference_at d cell i p sound there).2 in
    let first = r.elements 0 0 r.rows r.columns in
    let cx = p.column_step.x in let cy = p.column_step.y in let rx = p.row_step.x in let ry = p.row_step.y in
    let dx = start_within p.motion.dx (pos 0 *ℤ cx) (pos 0 *ℤ rx) (shift_x p 0 0) refl (none_times cx) (none_times rx) first.dx in
    let dy = start_within p.motion.dy (pos 0 *ℤ cy) (pos 0 *ℤ ry) (shift_y p 0 0) refl (none_times cy) (none_times ry) first.dy in
    record {
      dx = dx;
      dy = dy;
      column_x = λ column lt. first_within p.motion.dx (pos column *ℤ cx) (pos 0 *ℤ rx) (shift_x p 0 column) refl (none_times rx) dx (r.elements 0 column r.rows lt).dx;
      column_y = λ column lt. first_within p.motion.dy (pos column *ℤ cy) (pos 0 *ℤ ry) (shift_y p 0 column) refl (none_times ry) dy (r.elements 0 column r.rows lt).dy;
      row_x = λ row lt. second_within p.motion.dx (pos 0 *ℤ cx) (pos row *ℤ rx) (shift_x p row 0) refl (none_times cx) dx (r.elements row 0 lt r.columns).dx;
      row_y = λ row lt. second_within p.motion.dy (pos 0 *ℤ cy) (pos row *ℤ ry) (shift_y p row 0) refl (none_times cy) dy (r.elements row 0 lt r.columns).dy;
    }

pub near_close : (p : Place) → IsCloseArray p → IsNearArray p
near_close p h = record {
  dx = wider (2 ^ 36) (2 ^ 39) p.motion.dx (omega arith) h.dx;
  dy = wider (2 ^ 36) (2 ^ 39) p.motion.dy (omega arith) h.dy;
  column_x = λ column lt. wider (2 ^ 37) (2 ^ 38) (pos column *ℤ p.column_step.x) (omega arith) (h.column_x column lt);
  column_y = λ column lt. wider (2 ^ 37) (2 ^ 38) (pos column *ℤ p.column_step.y) (omega arith) (h.column_y column lt);
  row_x = λ row lt. wider (2 ^ 37) (2 ^ 38) (pos row *ℤ p.row_step.x) (omega arith) (h.row_x row lt);
  row_y = λ row lt. wider (2 ^ 37) (2 ^ 38) (pos row *ℤ p.row_step.y) (omega arith) (h.row_y row lt);
}

pub near_array : (d : Linked) (cell i : ℕ) (p : Place) → IsSound d → slice_get (places_at (cell_at d cell)) i ≡ Some p → IsNearArray p
near_array d cell i p sound there = near_close p (close_array d cell i p sound there)

pub is_hull : (d : Linked) (cell : ℕ) (h : Rect) → IsSound d → Some h ≡ hull_of (cell_at d cell) → IsFrame h
is_hull d cell h sound e =
    let g : IsHull h = subst HullIsSound (sym e) (hull_sound d cell sound) in
    record { some = g.some; near = wider_rect (2 ^ 36) (2 ^ 37) h (omega arith) g.near }

held_in : (n : ℕ) (o : Option Rect) (h g : Rect) (q : Square) → Some h ≡ o → g ≡ grown n h → has g q ≡ true → IsInGrown n o q
held_in n None h g q e wide i = let f : Some h ≡ None = e in let z : ⊥ = cc in z
held_in n (Some x) h g q e wide i = let f : h ≡ x = cc in subst (λ r. has (grown n r) q ≡ true) f (subst (λ r. has r q ≡ true) wide i)

visit_of : (n : ℕ) (d : Linked) (cell i : ℕ) (skip : Option ℕ) (w hull g : Rect) (p : Place) (v : Visit) → Some hull ≡ hull_of (cell_at d p.cell) → g ≡ grown n hull → slice_get (places_at (cell_at d cell)) i ≡ Some p → (skip ≡ Some i → ⊥) → IsElementVisit p g w v → IsVisit n d cell skip w v
visit_of n d cell i skip w hull g p v is wide there kept h = record {
  index = i;
  row = h.row;
  column = h.column;
  from = p;
  step = record { there = there; row_in = h.row_in; column_in = h.column_in };
  kept = kept;
  cell_is = h.cell;
  motion_is = h.motion;
  near = h.near;
  has = λ q e. (and_parts (has g q) (has w (moved_square v.motion q)) (sym (h.has q) ∙ e)).1;
  held = λ q e. held_in n (hull_of (cell_at d v.cell)) hull g q (is ∙ ap (λ c. hull_of (cell_at d c)) (sym h.cell)) wide ((and_parts (has g q) (has w (moved_square v.motion q)) (sym (h.has q) ∙ e)).0);
}

pub visits_of : (n : ℕ) (d : Linked) (cell i : ℕ) (skip : Option ℕ) (w hull g : Rect) (p : Place) (vs : List Visit) → Some hull ≡ hull_of (cell_at d p.cell) → g ≡ grown n hull → slice_get (places_at (cell_at d cell)) i ≡ Some p → (skip ≡ Some i → ⊥) → All (IsElementVisit p g w) vs → All (IsVisit n d cell skip w) vs
visits_of n d cell i skip w hull g p vs is wide there kept h = λ k v lt. visit_of n d cell i skip w hull g p (slice_index_or vs k v) is wide there kept (h k v lt)

pub grown_has : (n : ℕ) (o : Option Rect) (h g : Rect) (q : Square) → Some h ≡ o → g ≡ grown n h → IsInGrown n o q → has g q ≡ true
grown_has n None h g q e wide i = absurd i
grown_has n (Some x) h g q e wide i = let f : h ≡ x = cc in subst (λ r. has r q ≡ true) (sym wide) (subst (λ r. has (grown n r) q ≡ true) (sym f) i)

pub no_grown : (n : ℕ) (o : Option Rect) (q : Square) → None ≡ o → IsInGrown n o q → ⊥
no_grown n None q e g = g
no_grown n (Some x) q e g = let f : None ≡ Some x = e in let z : ⊥ = cc in z

pub hull_has : (o : Option Rect) (h : Rect) (q : Square) → Some h ≡ o → HullHas o q → has h q ≡ true
hull_has None h q e g = absurd g
hull_has (Some x) h q e g = let f : h ≡ x = cc in subst (λ r. has r q ≡ true) (sym f) g

pub no_hull : (o : Option Rect) (q : Square) → None ≡ o → HullHas o q → ⊥
no_hull None q e g = g
no_hull (Some x) q e g = let f : None ≡ Some x = e in let z : ⊥ = cc in z

pub one_place : (o : Option Place) (p r : Place) → o ≡ Some p → o ≡ Some r → p ≡ r
one_place o p r e f = let g : Some p ≡ Some r = sym e ∙ f in cc

pub or_and : (a b c : Bool) → ((a && c) || (b && c)) ≡ ((a || b) && c)
or_and true true true = refl
or_and true true false = refl
or_and true false true = refl
or_and true false false = refl
or_and false b c = refl

pub covers_append : (xs ys : List Rect) (q : Square) → covers (xs ++ ys) q ≡ (covers xs q || covers ys q)
covers_append [] ys q = refl
covers_append (x ∷ xs) ys q = ap (λ c. has x q || c) (covers_append xs ys q) ∙ sym (or_assoc (has x q) (covers xs q) (covers ys q))

pub covers_more : (rects : List Rect) (k : ℕ) (d : Rect) (q : Square) → k < length rects → covers (take (k + 1) rects) q ≡ (covers (take k rects) q || has (slice_index_or rects k d) q)
covers_more rects k d q lt =
    ap (λ l. covers l q) (take_more rects k d lt) ∙ covers_append (take k rects) (slice_index_or rects k d ∷ []) q ∙ ap (λ c. covers (take k rects) q || c) (or_false (has (slice_index_or rects k d) q))

-- one more rectangle
pub covers_next : (old new : Bool) (rects : List Rect) (k : ℕ) (d : Rect) (q : Square) (start w here : Bool) → k < length rects → old ≡ (start || (covers (take k rects) q && w)) → here ≡ has (slice_index_or rects k d) q
    → new ≡ (old || (here && w)) → new ≡ (start || (covers (take (k + 1) rects) q && w))
covers_next old new rects k d q start w here lt e f g =
    g ∙ ap (λ c. c || (here && w)) e ∙ or_assoc start (covers (take k rects) q && w) (here && w) ∙ ap (λ c. start || c) (or_and (covers (take k rects) q) here w)
    ∙ ap (λ c. start || (c && w)) (ap (λ c. covers (take k rects) q || c) f ∙ sym (covers_more rects k d q lt))

abbrev pub no_rect : Rect
no_rect = record { x1 = pos 0; y1 = pos 0; x2 = pos 0; y2 = pos 0 }

-- the place that a loop stands at
pub item_at : {A : Type 0} (xs ys : List A) (k : ℕ) (d : A) → xs ≡ ys → k < length xs → slice_get ys k ≡ Some (slice_index_or xs k d)
item_at xs ys k d e lt = subst (λ zs. slice_get zs k ≡ Some (slice_index_or xs k d)) e (slice_get-get_or xs k d lt)

pub here_found : (n : ℕ) (d : Linked) (cell i : ℕ) (place : Place) (w : Rect) (vs : List Visit) → slice_get (places_at (cell_at d cell)) i ≡ Some place → AreVisitedOf n d cell i place w vs
    → (row column : ℕ) (p : Place) (q : Square) → IsStep d cell i row column p → IsInGrown n (hull_of (cell_at d p.cell)) q → has w (moved_square (motion_at p row column) q) ≡ true → Some_of (IsVisited p row column q) vs
here_found n d cell i place w vs there found row column p q step =
    let e : place ≡ p = one_place (slice_get (places_at (cell_at d cell)) i) place p there step.there in
    subst (λ (r : Place). IsStep d cell i row column r → IsInGrown n (hull_of (cell_at d r.cell)) q → has w (moved_square (motion_at r row column) q) ≡ true → Some_of (IsVisited r row column q) vs) e (found row column q) step

pub not_skipped : (skip : Option ℕ) (k : ℕ) → true ≡ not (option_eq eqb skip (Some k)) → skip ≡ Some k → ⊥
not_skipped None k h e = let f : None ≡ Some k = e in let z : ⊥ = cc in z
not_skipped (Some s) k h e = elim (eqb_tells s k) [
  | inl (t, f) ↦ let g : true ≡ false = h ∙ ap not t in let z : ⊥ = cc in z
  | inr (t, n) ↦ let f : s ≡ k = cc in n f
]

pub skipped : (skip : Option ℕ) (k : ℕ) → false ≡ not (option_eq eqb skip (Some k)) → skip ≡ Some k
skipped None k h = let f : false ≡ true = h in absurd (let z : ⊥ = cc in z)
skipped (Some s) k h = elim (eqb_tells s k) [
  | inl (t, f) ↦ ap Some f
  | inr (t, n) ↦ let g : false ≡ true = h ∙ ap not t in absurd (let z : ⊥ = cc in z)
]
