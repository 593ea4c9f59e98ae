-- What a window finds by the indexes of a cell.
use Rattle.std.proofs.Common.{◌≡◌, ℕ, zero, suc, ◌+◌, ◌<◌, List, [], Some, None, length, map, get_or, slice_get, slice_index, sym, ◌∙◌, ap, subst, arith}
use Rattle.base_laws.proofs.Items.{map_from, map_to, item_at}
use Rattle.std.specs.Prelude.{Contains}
use Rattle.std.specs.List.Sorted.{IsStrictlyIncreasing}
use Rattle.std.specs.List.{All}
use Rattle.std.proofs.lemmas.List.{length-map}
use Rattle.std.proofs.lemmas.Option.{slice_get_within, slice_get-get_or, get_or_from_slice_get}
use Rattle.geo_base.specs.declared.layer.LayerKey.{LayerKey}
use Rattle.geo_base.specs.declared.shapes.Rect.{Rect}
use Rattle.tile_index.specs.Windows.{IsFound, ArePositions}
use Rattle.geo_base.specs.Rects.{ShareSquare}
use Rattle.cell_graph.specs.declared.cells.OwnLayer.{OwnLayer}
use Rattle.cell_graph.specs.declared.cells.Place.{Place}
use Rattle.cell_graph.specs.declared.cells.CellPart.{CellPart}
use Rattle.cell_graph.specs.declared.indexes.CellIndex.{CellIndex}
use Rattle.cell_graph.specs.Indexes.{AreSpans, IsIndexed, AreIndexed}
use Rattle.cell_graph.specs.Linked.{Linked, own_rects, own_of, cell_at, places_at, hull_of}
use Rattle.cell_graph.specs.Spans.{IsSpan, HasSpan, IsPlaceIn, ArePlacesIn}
use Rattle.cell_graph.proofs.Sweeping.{one_span}

contains_at : {A : Type 0} (xs : List A) (x : A) → Contains xs x → (k : ℕ) × (slice_get xs k ≡ Some x)
contains_at xs x (k, lt, e) = (k, slice_get-get_or xs k x lt ∙ ap Some e)

at_contains : {A : Type 0} (xs : List A) (x : A) (k : ℕ) → slice_get xs k ≡ Some x → Contains xs x
at_contains xs x k e = (k, slice_get_within xs k x e, get_or_from_slice_get xs k x x e)

-- nothing is found in nothing
pub none_found : (w : Rect) → ArePositions [] w []
none_found w = record {
  each = λ k. (
    (λ has. (let f = contains_at [] k has in let e : None ≡ Some k = f.1 in absurd (let z : ⊥ = cc in z))),
    (λ (r, there, shares). (let e : None ≡ Some r = there in absurd (let z : ⊥ = cc in z))),
  );
  ascending = λ k lt. absurd (let z : ⊥ = omega arith in z);
}

-- later numbers of rising ones are greater
rises : (xs : List ℕ) → IsStrictlyIncreasing xs → (d a : ℕ) → a + suc d < length xs → slice_index xs a < slice_index xs (a + suc d)
rises xs h zero a lt = let f = h a (let g : a + 1 < length xs = omega arith in g) in subst (λ i. slice_index xs a < slice_index xs i) (let g : a + 1 ≡ a + suc zero = omega arith in g) f
rises xs h (suc d) a lt =
    let before = rises xs h d a (omega arith) in
    let last = h (a + suc d) (let g : a + suc d + 1 < length xs = omega arith in g) in
    subst (λ i. slice_index xs a < slice_index xs i) (let g : a + suc d + 1 ≡ a + suc (suc d) = omega arith in g) (let g : slice_index xs a < slice_index xs (a + suc d + 1) = omega arith in g)

gap : (a b : ℕ) → a < b → (d : ℕ) × (a + suc d ≡ b)
gap zero zero lt = absurd (let z : ⊥ = omega arith in z)
gap zero (suc b) lt = (b, (let f : 0 + suc b ≡ suc b = omega arith in f))
gap (suc a) zero lt = absurd (let z : ⊥ = omega arith in z)
gap (suc a) (suc b) lt = let g = gap a b (omega arith) in let e = g.1 in (g.0, (let f : suc a + suc g.0 ≡ suc b = omega arith in f))

rises_between : (xs : List ℕ) → IsStrictlyIncreasing xs → (a b : ℕ) → a < b → b < length xs → slice_index xs a < slice_index xs b
rises_between xs h a b lt within =
    let g = gap a b lt in
    subst (λ i. slice_index xs a < slice_index xs i) g.1 (rises xs h g.0 a (subst (λ i. i < length xs) (sym g.1) within))

-- and so are numbers at rising places
mapped_index : (numbers found : List ℕ) (k : ℕ) → k < length found → slice_index (map (slice_index numbers) found) k ≡ slice_index numbers (slice_index found k)
mapped_index numbers found k lt =
    get_or_from_slice_get (map (slice_index numbers) found) k (slice_index numbers (slice_index found k)) 0
    (map_to (slice_index numbers) found k (slice_index found k) (slice_get-get_or found k 0 lt))

rising_mapped : (numbers found : List ℕ) → IsStrictlyIncreasing numbers → IsStrictlyIncreasing found → ((k j : ℕ) → slice_get found k ≡ Some j → j < length numbers)
    → IsStrictlyIncreasing (map (slice_index numbers) found)
rising_mapped numbers found h g inside k lt =
    let count : length (map (slice_index numbers) found) ≡ length found = length-map found (slice_index numbers) in
    let next : k + 1 < length found = omega arith in
    let here : k < length found = omega arith in
    let a = mapped_index numbers found k here in
    let b = mapped_index numbers found (k + 1) next in
    let up = rises_between numbers h (slice_index found k) (slice_index found (k + 1)) (g k next) (inside (k + 1) (slice_index found (k + 1)) (slice_get-get_or found (k + 1) 0 next)) in
    subst (λ n. n < slice_index (map (slice_index numbers) found) (k + 1)) (sym a) (subst (λ n. slice_index numbers (slice_index found k) < n) (sym b) up)

-- found positions are places of spans
pub positions_inside : (spans : List Rect) (w : Rect) (found : List ℕ) (n : ℕ) → length spans ≡ n → ArePositions spans w found → (k j : ℕ) → slice_get found k ≡ Some j → j < n
positions_inside spans w found n count h k j at =
    let f = (h.each j).0 (at_contains found j k at) in
    subst (λ m. j < m) count (slice_get_within spans j f.0 f.1)

pub all_inside : (spans : List Rect) (w : Rect) (found : List ℕ) (n : ℕ) → length spans ≡ n → ArePositions spans w found → All (λ j. j < n) found
all_inside spans w found n count h = λ k d lt. positions_inside spans w found n count h k _ (slice_get-get_or found k d lt)

span_same : (cells : List CellPart) (places : List Place) (k : ℕ) (r s : Rect) → HasSpan cells places k r → HasSpan cells places k s → r ≡ s
span_same cells places k r s a b =
    let place : b.place ≡ a.place = (let f : Some b.place ≡ Some a.place = sym b.there ∙ a.there in cc) in
    let hull_b : hull_of (slice_get cells a.place.cell) ≡ Some b.hull = subst (λ (p : Place). hull_of (slice_get cells p.cell) ≡ Some b.hull) place b.hull_is in
    let hull : b.hull ≡ a.hull = (let f : Some b.hull ≡ Some a.hull = sym hull_b ∙ a.hull_is in cc) in
    let span_b : IsSpan a.place a.hull s = subst (λ h. IsSpan a.place h s) hull (subst (λ p. IsSpan p b.hull s) place b.span) in
    one_span a.place a.hull r s a.span span_b

pub places_found : (d : Linked) (cell : ℕ) (w : Rect) (numbers : List ℕ) (spans : List Rect) (found : List ℕ) → AreSpans d.cells (places_at (cell_at d cell)) numbers spans → ArePositions spans w found
    → ArePlacesIn d cell w (map (slice_index numbers) found)
places_found d cell w numbers spans found h g = record {
  each = λ k. ((λ has. to k has), (λ (r, has, shares). from k r has shares));
  ascending = rising_mapped numbers found h.ascending g.ascending (positions_inside spans w found (length numbers) h.count g);
}
  where
    to : (k : ℕ) → Contains (map (slice_index numbers) found) k → IsPlaceIn d cell w k
    to k has =
        let at = contains_at (map (slice_index numbers) found) k has in
        let j = map_from (slice_index numbers) found at.0 k at.1 in
        let is = (g.each j.0).0 (at_contains found j.0 at.0 j.1) in
        let within = positions_inside spans w found (length numbers) h.count g at.0 j.0 j.1 in
        let number : slice_get numbers j.0 ≡ Some k = slice_get-get_or numbers j.0 0 within ∙ ap Some j.2 in
        (is.0, (h.each j.0 k is.0 number is.1).1, is.2)

    from : (k : ℕ) (r : Rect) → HasSpan d.cells (places_at (cell_at d cell)) k r → ShareSquare r w → Contains (map (slice_index numbers) found) k
    from k r has shares =
        let on = h.all k r (slice_get_within (places_at (cell_at d cell)) k has.place has.there) has in
        let within : on.0 < length spans = subst (λ n. on.0 < n) (sym h.count) (slice_get_within numbers on.0 k on.1) in
        let s = get_or spans on.0 r in
        let at_s : slice_get spans on.0 ≡ Some s = slice_get-get_or spans on.0 r within in
        let same : r ≡ s = span_same d.cells (places_at (cell_at d cell)) k r s has (h.each on.0 k s on.1 at_s).1 in
        let is : IsFound spans w on.0 = (s, at_s, subst (λ q. ShareSquare q w) same shares) in
        let at = contains_at found on.0 ((g.each on.0).1 is) in
        at_contains (map (slice_index numbers) found) k at.0 (map_to (slice_index numbers) found at.0 on.0 at.1 ∙ ap Some (get_or_from_slice_get numbers on.0 k 0 on.1))

-- the indexes of a design's cell, whose layers were read
pub index_here : (d : Linked) (cells : List CellPart) (indexes : List CellIndex) (cell : ℕ) (key : LayerKey) (part : CellPart) (x : CellIndex) (layers : List OwnLayer)
    → cells ≡ d.cells → AreIndexed cells indexes → cell < length d.cells → part ≡ get_or cells cell part → x ≡ get_or indexes cell x → layers ≡ part.layers.items
    → (own_of (cell_at d cell) key ≡ own_rects layers key) × IsIndexed cells part x
index_here d cells indexes cell key part x layers is h lt is_part is_x are =
    let in_cells : cell < length cells = subst (λ (cs : List CellPart). cell < length cs) (sym is) lt in
    let at : slice_get cells cell ≡ Some part = slice_get-get_or cells cell part in_cells ∙ ap Some (sym is_part) in
    let in_indexes : cell < length indexes = subst (λ n. cell < n) (sym h.count) in_cells in
    let at_x : slice_get indexes cell ≡ Some x = slice_get-get_or indexes cell x in_indexes ∙ ap Some (sym is_x) in
    let own : own_of (slice_get cells cell) key ≡ own_rects layers key = ap (λ o. own_of o key) at ∙ ap (λ (ls : List OwnLayer). own_rects ls key) (sym are) in
    (subst (λ (cs : List CellPart). own_of (slice_get cs cell) key ≡ own_rects layers key) is own, h.each cell part x at at_x)

-- and the spans of its references
pub index_at_cell : (cells : List CellPart) (indexes : List CellIndex) → AreIndexed cells indexes → (i : ℕ) → i < length cells → (x : CellIndex) → x ≡ get_or indexes i x
    → AreSpans cells (places_at (slice_get cells i)) x.spanned.items x.spans
index_at_cell cells indexes h i lt x is_x =
    let c = item_at cells i lt in
    let in_indexes : i < length indexes = subst (λ n. i < n) (sym h.count) lt in
    let at_x : slice_get indexes i ≡ Some x = slice_get-get_or indexes i x in_indexes ∙ ap Some (sym is_x) in
    subst (λ o. AreSpans cells (places_at o) x.spanned.items x.spans) (sym c.1) (h.each i c.0 x c.1 at_x).spans
