-- Spans of one reference after another, and indexes of one cell after another.
use Rattle.std.proofs.Common.{◌≡◌, ◌⊎◌, inl, inr, ℕ, zero, suc, ◌+◌, ◌<◌, ◌≤◌, List, [], ◌∷◌, ◌++◌, Some, None, length, get_or, slice_get, slice_index, refl, sym, ◌∙◌, ap, subst, arith, length-append}
use Rattle.base_laws.proofs.Items.{get_left}
use Rattle.std.specs.List.Sorted.{IsStrictlyIncreasing}
use Rattle.std.proofs.Math.Decide.{ℕ_discrete}
use Rattle.std.proofs.lemmas.Option.{slice_get_within, slice_get-get_or, get_or_from_slice_get}
use Rattle.std.specs.Vec.{vec_len}
use Rattle.geo_base.specs.declared.shapes.Rect.{Rect}
use Rattle.cell_graph.specs.declared.cells.Place.{Place}
use Rattle.cell_graph.specs.declared.cells.CellPart.{CellPart}
use Rattle.cell_graph.specs.declared.indexes.CellIndex.{CellIndex}
use Rattle.cell_graph.specs.Indexes.{AreSpansTo, AreSpans, IsIndexed, AreIndexedTo, AreSoundCells}
use Rattle.cell_graph.specs.Linked.{HullIsSound, IsReference, hull_of}
use Rattle.cell_graph.specs.Spans.{IsSpanOr, HasSpan}
use Rattle.cell_graph.proofs.Bridge.{all_at}
use Rattle.cell_graph.proofs.Elements.{in_second, in_either}

-- a greater number behind rising ones
at_index : (xs : List ℕ) (k : ℕ) → k < length xs → slice_get xs k ≡ Some (slice_index xs k)
at_index xs k lt = slice_get-get_or xs k 0 lt

index_at : (xs : List ℕ) (k x : ℕ) → slice_get xs k ≡ Some x → slice_index xs k ≡ x
index_at xs k x e = get_or_from_slice_get xs k x 0 e

pub rising_more : (xs : List ℕ) (n : ℕ) → IsStrictlyIncreasing xs → ((k x : ℕ) → slice_get xs k ≡ Some x → x < n) → IsStrictlyIncreasing (xs ++ n ∷ [])
rising_more xs n rising low k lt =
    let count = length-append xs (n ∷ []) in
    let here : k < length xs = omega arith in
    let a : slice_index (xs ++ n ∷ []) k ≡ slice_index xs k = index_at (xs ++ n ∷ []) k (slice_index xs k) (get_left xs (n ∷ []) k (slice_index xs k) (at_index xs k here)) in
    elim (ℕ_discrete (k + 1) (length xs)) [
      | yes e ↦
          let b : slice_index (xs ++ n ∷ []) (k + 1) ≡ n = index_at (xs ++ n ∷ []) (k + 1) n (subst (λ i. slice_get (xs ++ n ∷ []) i ≡ Some n) (let f : length xs + 0 ≡ k + 1 = omega arith in f) (in_second xs (n ∷ []) 0 n refl)) in
          let below = low k (slice_index xs k) (at_index xs k here) in
          (let f : slice_index (xs ++ n ∷ []) k < slice_index (xs ++ n ∷ []) (k + 1) = omega arith in f)
      | no e ↦
          let next : k + 1 < length xs = omega arith in
          let b : slice_index (xs ++ n ∷ []) (k + 1) ≡ slice_index xs (k + 1) = index_at (xs ++ n ∷ []) (k + 1) (slice_index xs (k + 1)) (get_left xs (n ∷ []) (k + 1) (slice_index xs (k + 1)) (at_index xs (k + 1) next)) in
          let below = rising k next in
          (let f : slice_index (xs ++ n ∷ []) k < slice_index (xs ++ n ∷ []) (k + 1) = omega arith in f)
    ]

no_item : {A : Type 0} (k : ℕ) (x : A) → slice_get [] k ≡ Some x → ⊥
no_item k x e = let f : None ≡ Some x = e in let z : ⊥ = cc in z

pub no_spans : (cells : List CellPart) (places : List Place) → AreSpansTo cells places 0 [] []
no_spans cells places = record {
  count = refl;
  each = λ j k r at_j at_r. absurd (no_item j k at_j);
  all = λ k r lt has. absurd (let z : ⊥ = omega arith in z);
  ascending = λ k lt. absurd (let z : ⊥ = omega arith in z);
}

-- a reference without a span
pub span_none : (cells : List CellPart) (places : List Place) (n : ℕ) (numbers : List ℕ) (spans : List Rect) → ((r : Rect) → HasSpan cells places n r → ⊥)
    → AreSpansTo cells places n numbers spans → AreSpansTo cells places (n + 1) numbers spans
span_none cells places n numbers spans none h = record {
  count = h.count;
  each = λ j k r at_j at_r. (let f = h.each j k r at_j at_r in let lt = f.0 in ((omega arith), f.1));
  all = λ k r lt has. elim (ℕ_discrete k n) [
    | yes e ↦ absurd (none r (subst (λ i. HasSpan cells places i r) e has))
    | no e ↦ h.all k r (omega arith) has
  ];
  ascending = h.ascending;
}

-- and one with a span
pub span_more : (cells : List CellPart) (places : List Place) (n : ℕ) (numbers : List ℕ) (spans : List Rect) (s : Rect) → HasSpan cells places n s
    → AreSpansTo cells places n numbers spans → AreSpansTo cells places (n + 1) (numbers ++ n ∷ []) (spans ++ s ∷ [])
span_more cells places n numbers spans s here h = record {
  count = (let a = length-append spans (s ∷ []) in let b = length-append numbers (n ∷ []) in let c = h.count in omega arith);
  each = λ j k r at_j at_r. by j k r at_j at_r (in_either numbers (n ∷ []) j k at_j) (in_either spans (s ∷ []) j r at_r);
  all = λ k r lt has. elim (ℕ_discrete k n) [
    | yes e ↦ (length numbers + 0, subst (λ i. slice_get (numbers ++ n ∷ []) (length numbers + 0) ≡ Some i) (sym e) (in_second numbers (n ∷ []) 0 n refl))
    | no e ↦ (let on = h.all k r (omega arith) has in (on.0, get_left numbers (n ∷ []) on.0 k on.1))
  ];
  ascending = rising_more numbers n h.ascending (λ j k at_j. (
      let lt = slice_get_within numbers j k at_j in
      let c = h.count in
      let in_spans : j < length spans = omega arith in
      (h.each j k (get_or spans j s) at_j (slice_get-get_or spans j s in_spans)).0));
}
  where
    last : {A : Type 0} (x y : A) (i : ℕ) → slice_get (x ∷ []) i ≡ Some y → (i ≡ 0) × (x ≡ y)
    last x y zero e = (refl, cc)
    last x y (suc i) e = absurd (no_item i y e)

    by : (j k : ℕ) (r : Rect) → slice_get (numbers ++ n ∷ []) j ≡ Some k → slice_get (spans ++ s ∷ []) j ≡ Some r
        → (slice_get numbers j ≡ Some k) ⊎ ((i : ℕ) × (j ≡ length numbers + i) × (slice_get (n ∷ []) i ≡ Some k))
        → (slice_get spans j ≡ Some r) ⊎ ((i : ℕ) × (j ≡ length spans + i) × (slice_get (s ∷ []) i ≡ Some r)) → (k < n + 1) × HasSpan cells places k r
    by j k r at_j at_r (inl f) (inl g) = let x = h.each j k r f g in let lt = x.0 in ((omega arith), x.1)
    by j k r at_j at_r (inl f) (inr (i, e, g)) = let lt = slice_get_within numbers j k f in let c = h.count in absurd (let z : ⊥ = omega arith in z)
    by j k r at_j at_r (inr (i, e, f)) (inl g) = let lt = slice_get_within spans j r g in let c = h.count in absurd (let z : ⊥ = omega arith in z)
    by j k r at_j at_r (inr (i, e, f)) (inr (i', e', g)) =
        let a = last n k i f in let b = last s r i' g in
        let ka = a.1 in
        ((let lt : k < n + 1 = omega arith in lt), subst (λ q. HasSpan cells places k q) b.1 (subst (λ i. HasSpan cells places i s) ka here))

-- all references
pub all_spans : (cells : List CellPart) (places : List Place) (n : ℕ) (numbers : List ℕ) (spans : List Rect) → length places ≤ n → AreSpansTo cells places n numbers spans → AreSpans cells places numbers spans
all_spans cells places n numbers spans le h = record {
  count = h.count;
  each = λ j k r at_j at_r. (let f = h.each j k r at_j at_r in (slice_get_within places k f.1.place f.1.there, f.1));
  all = λ k r lt has. h.all k r (omega arith) has;
  ascending = h.ascending;
}

-- what a sound design's reference has
pub span_here : (cells : List CellPart) (c : CellPart) (n : ℕ) (place : Place) (q : CellPart) (s : Rect) → slice_get c.places.items n ≡ Some place → slice_get cells place.cell ≡ Some q
    → IsSpanOr place q.hull (Some s) → HasSpan cells c.places.items n s
span_here cells c n place q s there at is = record { place = place; there = there; hull = is.0; hull_is = ap hull_of at ∙ is.1; span = is.2 }

pub no_span_here : (cells : List CellPart) (c : CellPart) (n : ℕ) (place : Place) (q : CellPart) → IsReference cells c place → slice_get c.places.items n ≡ Some place → slice_get cells place.cell ≡ Some q
    → IsSpanOr place q.hull None → (r : Rect) → HasSpan cells c.places.items n r → ⊥
no_span_here cells c n place q ref there at (inl e) r has =
    let same : has.place ≡ place = (let f : Some has.place ≡ Some place = sym has.there ∙ there in cc) in
    let hull : hull_of (slice_get cells place.cell) ≡ Some has.hull = subst (λ (p : Place). hull_of (slice_get cells p.cell) ≡ Some has.hull) same has.hull_is in
    let f : None ≡ Some has.hull = sym e ∙ sym (ap hull_of at) ∙ hull in
    let z : ⊥ = cc in z
no_span_here cells c n place q ref there at (inr (inl (row, column, in_rows, in_columns, far))) r has = far (ref.elements row column in_rows in_columns).dx
no_span_here cells c n place q ref there at (inr (inr (row, column, in_rows, in_columns, far))) r has = far (ref.elements row column in_rows in_columns).dy

-- a reference that was read by its number, in a cell that was
pub record IsRead (cells : List CellPart) (n : ℕ) (part : CellPart) (place : Place) : Type 0 where
  pub at : slice_get part.places.items n ≡ Some place
  pub ref : IsReference cells part place
  pub inside : place.cell < length cells

pub reference_read : (cells : List CellPart) (cell n : ℕ) (part : CellPart) (place : Place) (end : ℕ) → AreSoundCells cells → cell < length cells → part ≡ get_or cells cell part → end ≡ vec_len (get_or cells cell part).places → n < end
    → place ≡ get_or (get_or cells cell part).places.items n place → IsRead cells n part place
reference_read cells cell n part place end sound inside is long lt read =
    let there : slice_get cells cell ≡ Some part = slice_get-get_or cells cell part inside ∙ ap Some (sym is) in
    let count : end ≡ vec_len part.places = subst (λ (q : CellPart). end ≡ vec_len q.places) (sym is) long in
    let ok = part.places.ok.0 in
    let below : n < length part.places.items = omega arith in
    let here : place ≡ get_or part.places.items n place = subst (λ (q : CellPart). place ≡ get_or q.places.items n place) (sym is) read in
    let at : slice_get part.places.items n ≡ Some place = slice_get-get_or part.places.items n place below ∙ ap Some (sym here) in
    let ref = all_at (IsReference cells part) part.places.items n place (sound cell part there).places at in
    record { at = at; ref = ref; inside = slice_get_within cells place.cell ref.placed ref.there }

pub hull_read : (cells : List CellPart) (cell : ℕ) (part : CellPart) → AreSoundCells cells → cell < length cells → HullIsSound (get_or cells cell part).hull
hull_read cells cell part sound inside = (sound cell (get_or cells cell part) (slice_get-get_or cells cell part inside)).hull

-- one cell's indexes more
pub no_index : (cells : List CellPart) → AreIndexedTo cells 0 []
no_index cells = record { count = refl; each = λ i c x at_c at_x. absurd (no_item i x at_x) }

pub index_more : (cells : List CellPart) (n : ℕ) (indexes : List CellIndex) (x : CellIndex) → ((c : CellPart) → slice_get cells n ≡ Some c → IsIndexed cells c x)
    → AreIndexedTo cells n indexes → AreIndexedTo cells (n + 1) (indexes ++ x ∷ [])
index_more cells n indexes x here h = record {
  count = (let a = length-append indexes (x ∷ []) in let b = h.count in omega arith);
  each = λ i c y at_c at_y. elim (in_either indexes (x ∷ []) i y at_y) [
    | inl f ↦ h.each i c y at_c f
    | inr (j, e, f) ↦ last i c y j at_c e f
  ];
}
  where
    last : (i : ℕ) (c : CellPart) (y : CellIndex) (j : ℕ) → slice_get cells i ≡ Some c → i ≡ length indexes + j → slice_get (x ∷ []) j ≡ Some y → IsIndexed cells c y
    last i c y zero at_c e f =
        let b = h.count in
        let at : slice_get cells n ≡ Some c = subst (λ k. slice_get cells k ≡ Some c) (let g : i ≡ n = omega arith in g) at_c in
        let same : x ≡ y = cc in
        subst (IsIndexed cells c) same (here c at)
    last i c y (suc j) at_c e f = absurd (no_item j y f)
