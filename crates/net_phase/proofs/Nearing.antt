-- What indexes tell of a cell's rectangles and placements.
use Rattle.std.proofs.Common.{◌≡◌, ◌⊎◌, inl, inr, ◌<◌, ℕ, zero, suc, Bool, true, false, List, [], ◌∷◌, Some, map, length, get_or, slice_get, refl, sym, subst, ap, ◌∙◌, arith}
use Rattle.std.proofs.lemmas.List.{length-map}
use Rattle.std.proofs.lemmas.Option.{slice_get_within}
use Rattle.std.specs.Borrow.{Bor}
use Rattle.std.specs.Global.{Vec}
use Rattle.std.specs.Prelude.{Contains}
use Rattle.cell_context.proofs.Near.{own_inside}
use Rattle.cell_graph.specs.Linked.{Linked, plain}
use Rattle.flat_layout.specs.Layout.{Place}
use Rattle.flat_layout.specs.Nets.{NetHolds, Tables}
use Rattle.flat_layout.specs.Regions.{At}
use Rattle.geo_base.specs.Motions.{moved_square}
use Rattle.geo_base.specs.Rects.{has, meets}
use Rattle.geo_base.specs.declared.shapes.Rect.{Rect}
use Rattle.geo_base.specs.declared.shapes.Square.{Square}
use Rattle.net_link_laws.specs.Places.{places_of}
use Rattle.net_walk.proofs.Insides.{in_to}
use Rattle.net_walk.proofs.Walking.{as_long, element_at, no_element}
use Rattle.net_walk.specs.Walk.{HasNoPart, place_of}
use Rattle.net_walk.specs.Windows.{AreOwnNear, ArePlacesNear}
use Rattle.net_walk.specs.declared.cells.Element.{Element}
use Rattle.geo_base.proofs.Meeting.{meets_share, share_meets}
use Rattle.tile_index.specs.Windows.{ArePositions}
use Rattle.net_phase.specs.Elements.{element_lists}
use Rattle.rule_text.specs.Rules.{Rules}
use Rattle.net_phase.specs.Indexes.{AreIndexes, span_of, spans_of}
use Rattle.net_phase.specs.Own.{rect_lists}
use Rattle.net_phase.specs.declared.indexes.Indexes.{Indexes}

pub found_near : (rects : List Rect) (w : Rect) (near : List ℕ) → ArePositions rects w near → AreOwnNear rects w near
found_near rects w near are = record {
  inside = λ j lt. own_inside rects w near j are lt;
  all = λ r rect q at here within. (are.each r).1 (rect, at, (q, in_to rect q here, in_to w q within));
}

pub none_near : (rects : List Rect) (w : Rect) → rects ≡ [] → AreOwnNear rects w []
none_near rects w none = record {
  inside = λ j lt. absurd (omega (arith, lt));
  all = λ r rect q at here within. absurd (let e : slice_get [] r ≡ Some rect = subst (λ (l : List Rect). slice_get l r ≡ Some rect) none at in let z : ⊥ = cc in z);
}

span_at : (n : ℕ) (d : Linked) (es : List Element) (k : ℕ) → k < length es → slice_get (spans_of n d es) k ≡ Some (span_of n d (get_or es k no_element))
span_at n d [] k lt = absurd (omega (arith, lt))
span_at n d (e ∷ es) zero lt = refl
span_at n d (e ∷ es) (suc k) lt = span_at n d es k (omega (arith, lt))

-- where what bounds a placement has all that its nets bring there, those that share no square with
-- the window bring nothing there
pub found_places : (n : ℕ) (d : Linked) (t : Tables) (cell : ℕ) (w : Rect) (es : List Element) (near : List ℕ) → map place_of es ≡ places_of (plain d) cell → ArePositions (spans_of n d es) w near
    → ((e : Element) (c x : ℕ) (m : Square) → NetHolds (plain d) t e.cell x (At c m) → has (span_of n d e) (moved_square e.motion m) ≡ true) → ArePlacesNear (plain d) t cell w near
found_places n d t cell w es near same are held = record {
  inside = λ j lt.
      let i = own_inside (spans_of n d es) w near j are lt in
      let a = length-map es (span_of n d) in
      let b = as_long es (places_of (plain d) cell) same in
      omega (arith, i, a, b);
  all = λ k p at.
      let i = slice_get_within (places_of (plain d) cell) k p at in
      let b = as_long es (places_of (plain d) cell) same in
      let lt : k < length es = omega (arith, i, b) in
      let e = get_or es k no_element in
      let there = element_at es (places_of (plain d) cell) k same lt in
      let is : place_of e ≡ p = let f : Some (place_of e) ≡ Some p = sym there ∙ at in cc in
      subst (λ (o : Place). HasNoPart (plain d) t o w ⊎ Contains near k) is (by_test k e (span_at n d es k lt) (meets (span_of n d e) w) refl);
}
  where
    by_test : (k : ℕ) (e : Element) → slice_get (spans_of n d es) k ≡ Some (span_of n d e) → (b : Bool) → meets (span_of n d e) w ≡ b → HasNoPart (plain d) t (place_of e) w ⊎ Contains near k
    by_test k e at true met = inr ((are.each k).1 (span_of n d e, at, meets_share (span_of n d e) w met))
    by_test k e at false miss = inl (λ c x m holds within.
        let met = share_meets (span_of n d e) w (moved_square e.motion m, held e c x m holds, in_to w (moved_square e.motion m) within) in
        let z : ⊥ = (let f : false ≡ true = sym miss ∙ met in cc) in
        z)

pub no_places : (n : ℕ) (d : Linked) (t : Tables) (cell : ℕ) (w : Rect) (es : List Element) → map place_of es ≡ places_of (plain d) cell → spans_of n d es ≡ [] → ArePlacesNear (plain d) t cell w []
no_places n d t cell w es same none = record {
  inside = λ j lt. absurd (omega (arith, lt));
  all = λ k p at.
      let i = slice_get_within (places_of (plain d) cell) k p at in
      let a = length-map es (span_of n d) in
      let b = as_long es (places_of (plain d) cell) same in
      let none_there : length (spans_of n d es) ≡ 0 = ap (λ (l : List Rect). length l) none in
      absurd (omega (arith, i, a, b, none_there));
}

-- over the same lists indexes are the same
pub same_indexes : (d : Linked) (r : Rules) (own rects : List (Vec (Bor (List Rect)))) (elements others : List (Vec Element)) (x : Indexes) → own ≡ rects → elements ≡ others → AreIndexes d r (rect_lists own) (element_lists elements) x
    → AreIndexes d r (rect_lists rects) (element_lists others) x
same_indexes d r own rects elements others x e f h =
    subst (λ (l : List (Vec Element)). AreIndexes d r (rect_lists rects) (element_lists l) x) f
    (subst (λ (l : List (Vec (Bor (List Rect)))). AreIndexes d r (rect_lists l) (element_lists elements) x) e h)
