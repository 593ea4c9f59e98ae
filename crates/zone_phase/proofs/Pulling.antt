-- Windows of visits as a set.
use Rattle.std.proofs.Common.{◌≡◌, inl, inr, ℕ, ℤ, zero, suc, ◌<◌, Bool, true, false, ◌||◌, ◌&&◌, List, [], ◌∷◌, ◌++◌, length, slice_index_or, refl, sym, ◌∙◌, ap, arith}
use Rattle.base_laws.proofs.Tests.{or_false}
use Rattle.std.proofs.lemmas.Bool.{and_parts, or_cases, or_left, or_right}
use Rattle.std.specs.Ordering.{int_eq}
use Rattle.std.proofs.lemmas.Bool.Decides.{Decides-int_eq}
use Rattle.geo_base.specs.Motions.{moved_square}
use Rattle.geo_base.specs.Rects.{has}
use Rattle.geo_base.specs.declared.motion.Motion.{Motion}
use Rattle.geo_base.specs.declared.shapes.Rect.{Rect}
use Rattle.geo_base.specs.declared.shapes.Square.{Square}
use Rattle.rect_sets.specs.Rects.{covers}
use Rattle.cell_graph.specs.declared.cells.Place.{Place}
use Rattle.cell_context.specs.declared.arrays.Visit.{Visit}
use Rattle.cell_context.specs.Visits.{IsElementVisit, IsMet, IsVisited, IsFound}
use Rattle.cell_context.proofs.Collecting.{covers_append}
use Rattle.cell_context.proofs.Gathering.{some_at}
use Rattle.zone_phase.specs.Pulls.{IsTaken, IsPulled}

pub pushed : (xs : List Rect) (x : Rect) (q : Square) → covers (xs ++ x ∷ []) q ≡ (covers xs q || has x q)
pushed xs x q = covers_append xs (x ∷ []) q ∙ ap (λ c. covers xs q || c) (or_false (has x q))

-- a visit's square is taken into the rectangle
pub taken : (p : Place) (hull rect : Rect) (v : Visit) (q : Square) → IsElementVisit p hull rect v → has v.window q ≡ true → IsTaken p hull rect q
taken p hull rect v q h e =
    let both = sym (h.has q) ∙ e in
    record {
      row = h.row;
      column = h.column;
      row_in = h.row_in;
      column_in = h.column_in;
      met = record {
        inner = (and_parts (has hull q) (has rect (moved_square v.motion q)) both).0;
        outer = ap (λ (m : Motion). has rect (moved_square m q)) (sym h.motion) ∙ (and_parts (has hull q) (has rect (moved_square v.motion q)) both).1;
      };
    }

pub right_more : (p : Place) (hull rect : Rect) (old out new : List Rect) (v : Visit) → ((q : Square) → covers new q ≡ (covers out q || has v.window q)) → IsElementVisit p hull rect v
    → ((q : Square) → covers out q ≡ true → IsPulled p hull rect old q) → (q : Square) → covers new q ≡ true → IsPulled p hull rect old q
right_more p hull rect old out new v e h right q f = elim (or_cases (covers out q) (has v.window q) (sym (e q) ∙ f)) [
  | inl g ↦ right q g
  | inr g ↦ inr (taken p hull rect v q h g)
]

pub stays : (out new : List Rect) (x : Rect) (q : Square) → new ≡ out ++ x ∷ [] → covers out q ≡ true → covers new q ≡ true
stays out new x q e f = ap (λ l. covers l q) e ∙ pushed out x q ∙ or_left (covers out q) (has x q) f

pub comes : (out new : List Rect) (x : Rect) (q : Square) → new ≡ out ++ x ∷ [] → has x q ≡ true → covers new q ≡ true
comes out new x q e f = ap (λ l. covers l q) e ∙ pushed out x q ∙ or_right (covers out q) (has x q) f

-- the same where only the squares are known
pub still : (out new : List Rect) (x : Rect) (q : Square) → ((q : Square) → covers new q ≡ (covers out q || has x q)) → covers out q ≡ true → covers new q ≡ true
still out new x q e f = e q ∙ or_left (covers out q) (has x q) f

pub now : (out new : List Rect) (x : Rect) (q : Square) → ((q : Square) → covers new q ≡ (covers out q || has x q)) → has x q ≡ true → covers new q ≡ true
now out new x q e f = e q ∙ or_right (covers out q) (has x q) f

pub all_there : (p : Place) (hull rect : Rect) (out : List Rect) (vs : List Visit) (none : Visit) → ((k : ℕ) → k < length vs → (q : Square) → has (slice_index_or vs k none).window q ≡ true → covers out q ≡ true)
    → ((row column : ℕ) (q : Square) → row < p.rows → column < p.columns → IsMet p hull rect row column q → IsFound p row column q vs) → (q : Square) → IsTaken p hull rect q → covers out q ≡ true
all_there p hull rect out vs none there found q t =
    let s = some_at (IsVisited p t.row t.column q) vs none (found t.row t.column q t.row_in t.column_in t.met) in
    there s.0 s.1 q s.2.has

-- a rectangle whose squares are covered adds none
pub adds_none : (xs : List Rect) (x : Rect) → ((q : Square) → has x q ≡ true → covers xs q ≡ true) → (q : Square) → covers xs q ≡ (covers xs q || has x q)
adds_none xs x h q = at (has x q) refl
  where
    at : (b : Bool) → has x q ≡ b → covers xs q ≡ (covers xs q || has x q)
    at true e = h q e ∙ sym (or_left (covers xs q) (has x q) (h q e))
    at false e = sym (ap (λ b. covers xs q || b) e ∙ or_false (covers xs q))

-- each rectangle of a list is covered
pub item_covered : (xs : List Rect) (k : ℕ) (r : Rect) (q : Square) → k < length xs → has (slice_index_or xs k r) q ≡ true → covers xs q ≡ true
item_covered [] k r q lt e = absurd (let z : ⊥ = omega arith in z)
item_covered (x ∷ xs) zero r q lt e = or_left (has x q) (covers xs q) e
item_covered (x ∷ xs) (suc k) r q lt e = or_right (has x q) (covers xs q) (item_covered xs k r q (omega arith) e)

abbrev rect_of : ℤ → ℤ → ℤ → ℤ → Rect
rect_of x y u v = record { x1 = x; y1 = y; x2 = u; y2 = v }

-- rectangles with the same sides are one
pub same_rect : (a b : Rect) → (int_eq a.x1 b.x1 && (int_eq a.y1 b.y1 && (int_eq a.x2 b.x2 && int_eq a.y2 b.y2))) ≡ true → a ≡ b
same_rect a b e =
    let e1 = (and_parts (int_eq a.x1 b.x1) (int_eq a.y1 b.y1 && (int_eq a.x2 b.x2 && int_eq a.y2 b.y2)) e).1 in
    let e2 = (and_parts (int_eq a.y1 b.y1) (int_eq a.x2 b.x2 && int_eq a.y2 b.y2) e1).1 in
    let x1 = (Decides-int_eq a.x1 b.x1).0 ((and_parts (int_eq a.x1 b.x1) (int_eq a.y1 b.y1 && (int_eq a.x2 b.x2 && int_eq a.y2 b.y2)) e).0) in
    let y1 = (Decides-int_eq a.y1 b.y1).0 ((and_parts (int_eq a.y1 b.y1) (int_eq a.x2 b.x2 && int_eq a.y2 b.y2) e1).0) in
    let x2 = (Decides-int_eq a.x2 b.x2).0 ((and_parts (int_eq a.x2 b.x2) (int_eq a.y2 b.y2) e2).0) in
    let y2 = (Decides-int_eq a.y2 b.y2).0 ((and_parts (int_eq a.x2 b.x2) (int_eq a.y2 b.y2) e2).1) in
    ap (λ v. rect_of v a.y1 a.x2 a.y2) x1 ∙ ap (λ v. rect_of b.x1 v a.x2 a.y2) y1 ∙ ap (λ v. rect_of b.x1 b.y1 v a.y2) x2 ∙ ap (λ v. rect_of b.x1 b.y1 b.x2 v) y2
