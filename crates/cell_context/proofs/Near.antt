-- Which references and which own rectangles reach into a window.
use Rattle.std.proofs.Common.{◌≡◌, inl, inr, ℕ, zero, suc, ℤ, pos, ◌-◌, ◌+◌, ◌<◌, ◌≤◌, ◌^◌, ◌+ℤ◌, ◌*ℤ◌, ◌≤ℤ◌, Bool, true, false, ◌&&◌, ◌||◌, List, [], ◌∷◌, Option, Some, None, map, take, length, get_or, slice_get, refl, sym, ◌∙◌, ap, subst, arith}
use Rattle.base_laws.proofs.Tests.{or_assoc, same_truth, or_false}
use Rattle.std.proofs.lemmas.Bool.{or_cases, or_left, or_right}
use Rattle.std.specs.Int.{int_min, int_max}
use Rattle.std.proofs.lemmas.Int.{ints, clamps}
use Rattle.std.proofs.lemmas.List.{get_or_default, map_more, take_all}
use Rattle.std.proofs.lemmas.Option.{slice_get_within, get_or_from_slice_get}
use Rattle.geo_base.specs.Near.{IsWithin}
use Rattle.geo_base.specs.Motions.{moved_square}
use Rattle.geo_base.specs.Rects.{has, moved_rect, grown}
use Rattle.geo_base.specs.declared.shapes.Rect.{Rect}
use Rattle.geo_base.specs.declared.shapes.Square.{Square}
use Rattle.geo_base.proofs.Spans.{moved_rect-has}
use Rattle.rect_sets.specs.Rects.{covers}
use Rattle.flat_layout.specs.Plane.{AreWithin}
use Rattle.flat_laws.proofs.Moves.{withins, within_back}
use Rattle.tile_index.specs.Windows.{ArePositions}
use Rattle.cell_graph.specs.declared.arrays.Interval.{Interval}
use Rattle.cell_graph.specs.declared.arrays.ElementOrigins.{ElementOrigins}
use Rattle.cell_graph.specs.declared.cells.Place.{Place}
use Rattle.cell_graph.specs.Arrays.{IsReach, AreOrigins, SomeOrigin, origin}
use Rattle.cell_graph.specs.Linked.{Linked, IsSound, IsStep, HullIsSound, HullHas, hull_of, cell_at, places_at, motion_at}
use Rattle.cell_graph.specs.Spans.{IsSpan, IsPlaceIn, ArePlacesIn}
use Rattle.cell_graph.proofs.Bridge.{reference_at, hull_sound, inside_has}
use Rattle.cell_graph.proofs.Growing.{near_square, within_rect}
use Rattle.cell_graph.proofs.Ranges.{last_reach, low_origin, high_origin, all_origins, min_one, max_one}
use Rattle.cell_graph.proofs.Sweeping.{still, span_is}
use Rattle.cell_context.specs.declared.arrays.Visit.{Visit}
use Rattle.cell_context.specs.Over.{AreVisited, AreVisitedAt}
use Rattle.cell_context.proofs.Collecting.{close_array, no_rect, or_and, covers_append}
use Rattle.cell_context.proofs.Visiting.{wider}

-- ---- each reference has a span

below_left : (a b : ℤ) → int_min a b ≤ℤ a
below_left a b = omega (arith, ints, clamps)

below_right : (a b : ℤ) → int_min a b ≤ℤ b
below_right a b = omega (arith, ints, clamps)

above_left : (a b : ℤ) → a ≤ℤ int_max a b
above_left a b = omega (arith, ints, clamps)

above_right : (a b : ℤ) → b ≤ℤ int_max a b
above_right a b = omega (arith, ints, clamps)

abbrev interval : ℤ → ℤ → Interval
interval low high = record { low = low; high = high }

reach : (step : ℤ) (n : ℕ) → 0 < n → ((k : ℕ) → k < n → IsWithin (2 ^ 37) (pos k *ℤ step)) → (r : Interval) × IsReach step n r
reach step n some near =
    let last = pos (n - 1) *ℤ step in
    let r = interval (int_min last (pos 0)) (int_max last (pos 0)) in
    let close = wider (2 ^ 37) (2 ^ 53) last (omega arith) (near (n - 1) (omega (arith, some))) in
    (r, last_reach step n last r some refl close (min_one last (pos 0) r.low refl) (below_left last (pos 0)) (below_right last (pos 0)) (max_one last (pos 0) r.high refl) (above_left last (pos 0)) (above_right last (pos 0)))

near_some : (start cs rs : ℤ) (rows columns : ℕ) (z : ℤ) → ((row column : ℕ) → row < rows → column < columns → IsWithin (2 ^ 36) (origin start cs rs row column)) → SomeOrigin start cs rs rows columns (λ y. y ≡ z)
    → IsWithin (2 ^ 36) z
near_some start cs rs rows columns z near h = subst (IsWithin (2 ^ 36)) h.4 (near h.0 h.1 h.2 h.3)

origins : (start cs rs : ℤ) (rows columns : ℕ) (across along : Interval) → IsReach cs columns across → IsReach rs rows along
    → ((row column : ℕ) → row < rows → column < columns → IsWithin (2 ^ 36) (origin start cs rs row column)) → (r : Interval) × AreOrigins start cs rs rows columns r
origins start cs rs rows columns across along a b near =
    let r = interval ((start +ℤ across.low) +ℤ along.low) ((start +ℤ across.high) +ℤ along.high) in (
      r,
      all_origins start cs rs rows columns across along r a b refl refl (near_some start cs rs rows columns r.low near (low_origin start cs rs rows columns across along r.low a b refl))
          (near_some start cs rs rows columns r.high near (high_origin start cs rs rows columns across along r.high a b refl)),
    )

swept : Rect → ElementOrigins → Rect
swept t o = record { x1 = t.x1 +ℤ o.x.low; y1 = t.y1 +ℤ o.y.low; x2 = t.x2 +ℤ o.x.high; y2 = t.y2 +ℤ o.y.high }

span : (d : Linked) (cell i : ℕ) (p : Place) (h : Rect) → IsSound d → slice_get (places_at (cell_at d cell)) i ≡ Some p → (r : Rect) × IsSpan p h r
unfolding swept
span d cell i p h sound there =
    let r = (reference_at d cell i p sound there).2 in
    let near = close_array d cell i p sound there in
    let cx = reach p.column_step.x p.columns r.columns near.column_x in
    let cy = reach p.column_step.y p.columns r.columns near.column_y in
    let rx = reach p.row_step.x p.rows r.rows near.row_x in
    let ry = reach p.row_step.y p.rows r.rows near.row_y in
    let x = origins p.motion.dx p.column_step.x p.row_step.x p.rows p.columns cx.0 rx.0 cx.1 rx.1 (λ row column in_rows in_columns. (r.elements row column in_rows in_columns).dx) in
    let y = origins p.motion.dy p.column_step.y p.row_step.y p.rows p.columns cy.0 ry.0 cy.1 ry.1 (λ row column in_rows in_columns. (r.elements row column in_rows in_columns).dy) in
    let o : ElementOrigins = record { x = x.0; y = y.0 } in
    let t = moved_rect (still p.motion.turn) h in
    (swept t o, span_is p h t (swept t o) o refl (record { x = x.1; y = y.1 }) (record { x1 = refl; y1 = refl; x2 = refl; y2 = refl }))

-- ---- references

-- an element that takes a square of the hull into the window makes its reference reach into it
pub reaches : (d : Linked) (cell i row column : ℕ) (p : Place) (w : Rect) (q : Square) → IsSound d → IsStep d cell i row column p → HullHas (hull_of (cell_at d p.cell)) q → has w (moved_square (motion_at p row column) q) ≡ true
    → IsPlaceIn d cell w i
reaches d cell i row column p w q sound step held met = by_hull (hull_of (cell_at d p.cell)) refl (hull_sound d p.cell sound) held
  where
    by_hull : (o : Option Rect) → hull_of (cell_at d p.cell) ≡ o → HullIsSound o → HullHas o q → IsPlaceIn d cell w i
    by_hull None e h in_h = absurd in_h
    by_hull (Some h) e is in_h =
        let s = span d cell i p h sound step.there in
        let m = motion_at p row column in
        let image : has (moved_rect m h) (moved_square m q) ≡ true = moved_rect-has m h q is.some ∙ in_h in (
          s.0,
          record { place = p; there = step.there; hull = h; hull_is = e; span = s.1 },
          (moved_square m q, inside_has (moved_rect m h) s.0 (moved_square m q) (s.1.holds row column step.row_in step.column_in) image, met),
        )

-- a number that the index gives is that of a reference
pub found_inside : (d : Linked) (cell : ℕ) (w : Rect) (found : List ℕ) (k : ℕ) → ArePlacesIn d cell w found → k < length found → get_or found k 0 < length (places_at (cell_at d cell))
found_inside d cell w found k are lt =
    let h = (are.each (get_or found k 0)).0 (k, lt, get_or_default found k (get_or found k 0) 0 lt) in
    slice_get_within (places_at (cell_at d cell)) (get_or found k 0) h.1.place h.1.there

-- ---- own rectangles

abbrev pub chosen : List Rect → List ℕ → List Rect
chosen rects near = map (λ i. get_or rects i no_rect) near

pub own_inside : (rects : List Rect) (w : Rect) (near : List ℕ) (k : ℕ) → ArePositions rects w near → k < length near → get_or near k 0 < length rects
own_inside rects w near k are lt =
    let h = (are.each (get_or near k 0)).0 (k, lt, get_or_default near k (get_or near k 0) 0 lt) in
    slice_get_within rects (get_or near k 0) h.0 h.1

pub at_covers : (rects : List Rect) (k : ℕ) (d : Rect) (q : Square) → k < length rects → has (get_or rects k d) q ≡ true → covers rects q ≡ true
at_covers [] k d q lt e = absurd (omega (arith, lt))
at_covers (r ∷ rects) zero d q lt e = or_left (has r q) (covers rects q) e
at_covers (r ∷ rects) (suc k) d q lt e = or_right (has r q) (covers rects q) (at_covers rects k d q (omega (arith, lt)) e)

-- a rectangle that covers, by its number
pub covering : (rects : List Rect) (q : Square) → covers rects q ≡ true → (k : ℕ) × (r : Rect) × (slice_get rects k ≡ Some r) × (has r q ≡ true)
covering [] q e = cc
covering (r ∷ rects) q e = elim (or_cases (has r q) (covers rects q) e) [
  | inl h ↦ (0, r, refl, h)
  | inr h ↦ (let t = covering rects q h in (suc t.0, t.1, t.2, t.3))
]

chosen_covers : (rects : List Rect) (near : List ℕ) (q : Square) → ((k : ℕ) → k < length near → get_or near k 0 < length rects) → covers (chosen rects near) q ≡ true → covers rects q ≡ true
chosen_covers rects [] q inside e = cc
chosen_covers rects (i ∷ near) q inside e = elim (or_cases (has (get_or rects i no_rect) q) (covers (chosen rects near) q) e) [
  | inl h ↦ at_covers rects i no_rect q (inside 0 (omega arith)) h
  | inr h ↦ chosen_covers rects near q (λ k lt. inside (suc k) (omega (arith, lt))) h
]

contains_covers : (rects : List Rect) (near : List ℕ) (i : ℕ) (r : Rect) (q : Square) (k : ℕ) → k < length near → get_or near k i ≡ i → slice_get rects i ≡ Some r → has r q ≡ true → covers (chosen rects near) q ≡ true
contains_covers rects [] i r q k lt e there h = absurd (omega (arith, lt))
contains_covers rects (j ∷ near) i r q zero lt e there h =
    or_left (has (get_or rects j no_rect) q) (covers (chosen rects near) q) (ap (λ n. has (get_or rects n no_rect) q) e ∙ ap (λ (s : Rect). has s q) (get_or_from_slice_get rects i r no_rect there) ∙ h)
contains_covers rects (j ∷ near) i r q (suc k) lt e there h =
    or_right (has (get_or rects j no_rect) q) (covers (chosen rects near) q) (contains_covers rects near i r q k (omega (arith, lt)) e there h)

none_and : (b : Bool) → (b && false) ≡ false
none_and true = refl
none_and false = refl

-- the chosen rectangles cover in the window what all cover
pub chosen_same : (rects : List Rect) (w : Rect) (near : List ℕ) (q : Square) → ArePositions rects w near → (covers (chosen rects near) q && has w q) ≡ (covers rects q && has w q)
chosen_same rects w near q are = by_test (has w q) refl
  where
    by_test : (b : Bool) → has w q ≡ b → (covers (chosen rects near) q && b) ≡ (covers rects q && b)
    by_test false e = none_and (covers (chosen rects near) q) ∙ sym (none_and (covers rects q))
    by_test true e = ap (λ b. b && true) (same_truth (covers (chosen rects near) q) (covers rects q) (chosen_covers rects near q (λ k lt. own_inside rects w near k are lt)) (λ h.
        let c = covering rects q h in
        let t = (are.each c.0).1 (c.1, c.2, (q, c.3, e)) in
        contains_covers rects near c.0 c.1 q t.0 t.1 t.2 c.2 c.3))

chosen_more : (rects : List Rect) (near : List ℕ) (k : ℕ) (q : Square) → k < length near
    → covers (chosen rects (take (k + 1) near)) q ≡ (covers (chosen rects (take k near)) q || has (get_or rects (get_or near k 0) no_rect) q)
chosen_more rects near k q lt =
    let r = get_or rects (get_or near k 0) no_rect in
    ap (λ (l : List Rect). covers l q) (map_more (λ i. get_or rects i no_rect) near k 0 lt) ∙ covers_append (chosen rects (take k near)) (r ∷ []) q
    ∙ ap (λ c. covers (chosen rects (take k near)) q || c) (or_false (has r q))

-- one more of them
pub chosen_next : (old new : Bool) (rects : List Rect) (near : List ℕ) (k : ℕ) (q : Square) (start w here : Bool) → k < length near → old ≡ (start || (covers (chosen rects (take k near)) q && w))
    → here ≡ has (get_or rects (get_or near k 0) no_rect) q → new ≡ (old || (here && w)) → new ≡ (start || (covers (chosen rects (take (k + 1) near)) q && w))
chosen_next old new rects near k q start w here lt e f g =
    let so_far = covers (chosen rects (take k near)) q in
    g ∙ ap (λ c. c || (here && w)) e ∙ or_assoc start (so_far && w) (here && w) ∙ ap (λ c. start || c) (or_and so_far here w)
    ∙ ap (λ c. start || (c && w)) (ap (λ c. so_far || c) f ∙ sym (chosen_more rects near k q lt))

-- all of them
pub chosen_all : (rects : List Rect) (w : Rect) (near : List ℕ) (k : ℕ) (q : Square) (start new : Bool) → ArePositions rects w near → length near ≤ k
    → new ≡ (start || (covers (chosen rects (take k near)) q && has w q)) → new ≡ (start || (covers rects q && has w q))
chosen_all rects w near k q start new are end e =
    e ∙ ap (λ (l : List ℕ). start || (covers (chosen rects l) q && has w q)) (take_all k near end) ∙ ap (λ b. start || b) (chosen_same rects w near q are)

-- added to nothing, the pieces cover what lies in the window
pub pieces_of : (out start rects set : List Rect) (w : Rect) (q : Square) → start ≡ [] → rects ≡ set → covers out q ≡ (covers start q || (covers rects q && has w q)) → covers out q ≡ (covers set q && has w q)
pieces_of out start rects set w q none is e = e ∙ ap (λ (l : List Rect). covers l q || (covers rects q && has w q)) none ∙ ap (λ (l : List Rect). covers l q && has w q) is

-- where each reference that the index gives is visited, all that reach into the window are
pub all_visited : (n : ℕ) (d : Linked) (cell : ℕ) (skip : Option ℕ) (w g : Rect) (near : List ℕ) (visits : List Visit) → IsSound d → g ≡ grown n w → ArePlacesIn d cell g near
    → ((k : ℕ) → k < length near → AreVisitedAt n d cell skip w (get_or near k 0) visits) → AreVisited n d cell skip w visits
all_visited n d cell skip w g near visits sound wide are found i row column p q step kept held met =
    let m = motion_at p row column in
    let s = near_square n (hull_of (cell_at d p.cell)) q (hull_sound d p.cell sound) held in
    let close : AreWithin n (moved_square m s.0) (moved_square m q) = (withins n m s.0 q).1 (within_back n q s.0 s.2) in
    let outer : has g (moved_square m s.0) ≡ true = subst (λ r. has r (moved_square m s.0) ≡ true) (sym wide) (within_rect n w (moved_square m s.0) (moved_square m q) met close) in
    let t = (are.each i).1 (reaches d cell i row column p g s.0 sound step s.1 outer) in
    let is : get_or near t.0 0 ≡ i = get_or_default near t.0 0 i t.1 ∙ t.2 in
    (subst (λ (j : ℕ). AreVisitedAt n d cell skip w j visits) is (found t.0 t.1)) row column p q step kept held met
