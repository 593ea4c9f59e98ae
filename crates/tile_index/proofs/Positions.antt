-- Entries of a list in another order: what they find is found in the list.
use Rattle.std.proofs.Common.{◌≡◌, ◌⊎◌, inl, inr, ℕ, pos, zero, suc, ◌+◌, ◌<◌, ◌≤◌, List, [], ◌∷◌, ◌++◌, Some, true, false, eqb, map, length, take, get_or, slice_get, refl, sym, ◌∙◌, ap, subst, arith}
use Rattle.base_laws.proofs.Tests.{if_true, if_false}
use Rattle.std.proofs.lemmas.Bool.{cases_Bool}
use Rattle.std.specs.Prelude.{Contains}
use Rattle.std.specs.List.{All, IsDistinct, AllByRecursion, filter, range_with_len}
use Rattle.std.specs.List.Sorted.{IsPermutation, IsNonDecreasing}
use Rattle.std.proofs.lemmas.Bool.Decides.{eqb_tells}
use Rattle.std.proofs.lemmas.List.{length-map, map-append, map-id, take_more, take_all}
use Rattle.std.proofs.lemmas.List.Elements.{All-head, All-tail, All-push}
use Rattle.std.proofs.lemmas.List.FromFn.{length-range_with_len, get_or-range_with_len, map-range_with_len_more, fill_by_all}
use Rattle.std.proofs.lemmas.List.Sorted.{All-permutation, IsPermutation-sym, IsPermutation-map, Contains-permutation, length_permutation}
use Rattle.std.proofs.lemmas.Map.Keys.{IsDistinct-IsPermutation, IsDistinct-from_apart, IsStrictlyIncreasing-from_distinct}
use Rattle.std.proofs.lemmas.Option.{get_or_from_slice_get, slice_get_within}
use Rattle.geo_base.specs.declared.shapes.Rect.{Rect}
use Rattle.tile_index.specs.Windows.{IsFound, ArePositions}
use Rattle.geo_base.specs.Rects.{meets}
use Rattle.tile_index.specs.declared.entries.Entry.{Entry}
use Rattle.tile_index.specs.declared.entries.Stop.{Stop}
use Rattle.tile_index.specs.Entries.{rect_at, rects_of, AreEntries, ArePlaced, hits}
use Rattle.geo_base.proofs.Meeting.{meets_share, share_meets}

-- x is an element: by recursion
abbrev pub IsOn : {A : Type 0} → List A → A → Type 0
IsOn [] x = ⊥
IsOn (y ∷ ys) x = (y ≡ x) ⊎ IsOn ys x

pub contains_on : {A : Type 0} (xs : List A) (x : A) → Contains xs x → IsOn xs x
contains_on [] x (k, lt, e) = absurd (let z : ⊥ = omega arith in z)
contains_on (y ∷ ys) x (zero, lt, e) = inl e
contains_on (y ∷ ys) x (suc k, lt, e) = inr (contains_on ys x (k, (let f : k < length ys = omega arith in f), e))

pub on_contains : {A : Type 0} (xs : List A) (x : A) → IsOn xs x → Contains xs x
on_contains [] x h = absurd h
on_contains (y ∷ ys) x (inl e) = (0, (let f : 0 < suc (length ys) = omega arith in f), e)
on_contains (y ∷ ys) x (inr h) = let (k, lt, e) = on_contains ys x h in (suc k, (let f : suc k < suc (length ys) = omega arith in f), e)

abbrev pub AllPlaced : List Rect → List Entry → Type 0
AllPlaced rects entries = All (λ (e : Entry). slice_get rects e.position ≡ Some e.rect) entries

later : (rects : List Rect) (e : Entry) (entries : List Entry) → AllPlaced rects (e ∷ entries) → AllPlaced rects entries
later rects e entries h = All-tail (λ (e : Entry). slice_get rects e.position ≡ Some e.rect) e entries h

here : (rects : List Rect) (e : Entry) (entries : List Entry) → AllPlaced rects (e ∷ entries) → slice_get rects e.position ≡ Some e.rect
here rects e entries h = All-head (λ (e : Entry). slice_get rects e.position ≡ Some e.rect) e entries h

-- the entry of a position has the rectangle that stands there
rect_found : (rects : List Rect) (entries : List Entry) (k : ℕ) → AllPlaced rects entries → IsOn (map (λ (e : Entry). e.position) entries) k → slice_get rects k ≡ Some (rect_at entries k)
rect_found rects [] k all on = absurd on
rect_found rects (e ∷ entries) k all on =
    elim (eqb_tells e.position k) [
      | inl hit ↦
          let is : slice_get rects k ≡ Some e.rect = subst (λ i. slice_get rects i ≡ Some e.rect) hit.1 (here rects e entries all) in
          is ∙ ap (λ (r : Rect). Some r) (sym (if_true (eqb e.position k) e.rect (rect_at entries k) hit.0))
      | inr miss ↦
          let rest : IsOn (map (λ (e : Entry). e.position) entries) k = elim on [ inl same ↦ absurd (miss.1 same) | inr h ↦ h ] in
          rect_found rects entries k (later rects e entries all) rest
          ∙ ap (λ (r : Rect). Some r) (sym (if_false (eqb e.position k) e.rect (rect_at entries k) miss.0))
    ]

pub on_range : (n k : ℕ) → k < n → Contains (range_with_len 0 n) k
on_range n k lt = (k, subst (λ m. k < m) (sym (length-range_with_len 0 n)) lt, get_or-range_with_len 0 n k k lt ∙ (let f : 0 + k ≡ k = omega arith in f))

each_on : (rects : List Rect) (entries : List Entry) (k : ℕ) → AreEntries rects entries → k < length rects → IsOn (map (λ (e : Entry). e.position) entries) k
each_on rects entries k h lt =
    contains_on (map (λ (e : Entry). e.position) entries) k
    (Contains-permutation (range_with_len 0 (length rects)) (map (λ (e : Entry). e.position) entries) k h.once (on_range (length rects) k lt))

same_length : (rects : List Rect) (entries : List Entry) → AreEntries rects entries → length rects ≡ length entries
same_length rects entries h =
    sym (length-range_with_len 0 (length rects)) ∙ sym (length_permutation _ _ h.once) ∙ length-map entries (λ (e : Entry). e.position)

-- there are as many entries as stops
pub counts_same : (rects : List Rect) (entries : List Entry) (stops : List Stop) → AreEntries rects entries → ArePlaced rects stops → length entries ≡ length stops
counts_same rects entries stops h placed =
    sym (same_length rects entries h) ∙ sym (length-range_with_len 0 (length rects)) ∙ sym (length_permutation _ _ placed)
    ∙ length-map stops (λ (s : Stop). s.position)

zero_rect : Rect
zero_rect = record { x1 = pos 0; y1 = pos 0; x2 = pos 0; y2 = pos 0 }

-- the entries show the list
pub rects_same : (rects : List Rect) (entries : List Entry) → AreEntries rects entries → rects_of entries ≡ rects
rects_same rects entries h =
    let count = same_length rects entries h in
    sym (fill_by_all (rect_at entries) rects (length entries) zero_rect count
    (λ k lt. get_or_from_slice_get rects k (rect_at entries k) zero_rect
    (rect_found rects entries k h.each (each_on rects entries k h (subst (λ m. k < m) (sym count) lt)))))

pub hit_more : (w : Rect) (e : Entry) (entries : List Entry) → meets e.rect w ≡ true → hits w (e ∷ entries) ≡ e.position ∷ hits w entries
hit_more w e entries hit =
    ap (λ (es : List Entry). map (λ (e : Entry). e.position) es)
    (if_true (meets e.rect w) (e ∷ filter (λ (e : Entry). meets e.rect w) entries) (filter (λ (e : Entry). meets e.rect w) entries) hit)

pub hit_same : (w : Rect) (e : Entry) (entries : List Entry) → meets e.rect w ≡ false → hits w (e ∷ entries) ≡ hits w entries
hit_same w e entries miss =
    ap (λ (es : List Entry). map (λ (e : Entry). e.position) es)
    (if_false (meets e.rect w) (e ∷ filter (λ (e : Entry). meets e.rect w) entries) (filter (λ (e : Entry). meets e.rect w) entries) miss)

hit_found : (rects : List Rect) (entries : List Entry) (w : Rect) (k : ℕ) → AllPlaced rects entries → IsOn (hits w entries) k → IsFound rects w k
hit_found rects [] w k all on = absurd on
hit_found rects (e ∷ entries) w k all on =
    elim (cases_Bool (meets e.rect w)) [
      | inl hit ↦
          elim (subst (λ ks. IsOn ks k) (hit_more w e entries hit) on) [
            | inl same ↦ (e.rect, subst (λ i. slice_get rects i ≡ Some e.rect) same (here rects e entries all), meets_share e.rect w hit)
            | inr h ↦ hit_found rects entries w k (later rects e entries all) h
          ]
      | inr miss ↦ hit_found rects entries w k (later rects e entries all) (subst (λ ks. IsOn ks k) (hit_same w e entries miss) on)
    ]

found_hit : (rects : List Rect) (entries : List Entry) (w : Rect) (k : ℕ) → AllPlaced rects entries → IsOn (map (λ (e : Entry). e.position) entries) k
    → (r : Rect) → slice_get rects k ≡ Some r → meets r w ≡ true → IsOn (hits w entries) k
found_hit rects [] w k all on r there shares = absurd on
found_hit rects (e ∷ entries) w k all on r there shares =
    elim (cases_Bool (meets e.rect w)) [
      | inl hit ↦
          subst (λ ks. IsOn ks k) (sym (hit_more w e entries hit)) (elim on [
            | inl same ↦ inl same
            | inr h ↦ inr (found_hit rects entries w k (later rects e entries all) h r there shares)
          ])
      | inr miss ↦
          subst (λ ks. IsOn ks k) (sym (hit_same w e entries miss)) (elim on [
            | inl same ↦
                let at_k : slice_get rects k ≡ Some e.rect = subst (λ i. slice_get rects i ≡ Some e.rect) same (here rects e entries all) in
                let is : r ≡ e.rect = (let f : Some r ≡ Some e.rect = sym there ∙ at_k in cc) in
                let z : ⊥ = (let f : meets e.rect w ≡ true = subst (λ (s : Rect). meets s w ≡ true) is shares in cc) in absurd z
            | inr h ↦ found_hit rects entries w k (later rects e entries all) h r there shares
          ])
    ]

range_apart : (n : ℕ) → IsDistinct eqb (range_with_len 0 n)
range_apart n = IsDistinct-from_apart eqb (range_with_len 0 n) (λ i j d lt in_n.
    let within : j < n = subst (λ m. j < m) (length-range_with_len 0 n) in_n in
    let at_i : get_or (range_with_len 0 n) i d ≡ i = get_or-range_with_len 0 n i d (let f : i < n = omega arith in f) ∙ (let f : 0 + i ≡ i = omega arith in f) in
    let at_j : get_or (range_with_len 0 n) j d ≡ j = get_or-range_with_len 0 n j d within ∙ (let f : 0 + j ≡ j = omega arith in f) in
    ap (λ a. eqb a (get_or (range_with_len 0 n) j d)) at_i ∙ ap (λ a. eqb i a) at_j ∙ differ i j lt)
  where
    differ : (i j : ℕ) → i < j → eqb i j ≡ false
    differ i j lt = elim (eqb_tells i j) [ inl hit ↦ (let same = hit.1 in absurd (let z : ⊥ = omega arith in z)) | inr miss ↦ miss.0 ]

flips : (x y : ℕ) → eqb x y ≡ eqb y x
flips x y = elim (eqb_tells x y) [
  | inl hit ↦ elim (eqb_tells y x) [ inl back ↦ hit.0 ∙ sym back.0 | inr miss ↦ absurd (miss.1 (sym hit.1)) ]
  | inr miss ↦ elim (eqb_tells y x) [ inl back ↦ absurd (miss.1 (sym back.1)) | inr none ↦ miss.0 ∙ sym none.0 ]
]

none_hit : (w : Rect) (x : ℕ) (entries : List Entry) → AllByRecursion (λ y. eqb x y ≡ false) (map (λ (e : Entry). e.position) entries) → AllByRecursion (λ y. eqb x y ≡ false) (hits w entries)
none_hit w x [] h = tt
none_hit w x (e ∷ entries) h =
    elim (cases_Bool (meets e.rect w)) [
      | inl hit ↦ subst (AllByRecursion (λ y. eqb x y ≡ false)) (sym (hit_more w e entries hit)) (h.0, none_hit w x entries h.1)
      | inr miss ↦ subst (AllByRecursion (λ y. eqb x y ≡ false)) (sym (hit_same w e entries miss)) (none_hit w x entries h.1)
    ]

hits_apart : (w : Rect) (entries : List Entry) → IsDistinct eqb (map (λ (e : Entry). e.position) entries) → IsDistinct eqb (hits w entries)
unfolding IsDistinct
hits_apart w [] h = tt
hits_apart w (e ∷ entries) h =
    elim (cases_Bool (meets e.rect w)) [
      | inl hit ↦ subst (IsDistinct eqb) (sym (hit_more w e entries hit)) (none_hit w e.position entries h.0, hits_apart w entries h.1)
      | inr miss ↦ subst (IsDistinct eqb) (sym (hit_same w e entries miss)) (hits_apart w entries h.1)
    ]

-- the hits in order are what the window finds in the list
pub positions_right : (rects : List Rect) (entries : List Entry) (w : Rect) (found : List ℕ) → AreEntries rects entries → IsPermutation (hits w entries) found → IsNonDecreasing found → ArePositions rects w found
positions_right rects entries w found h perm rising = record {
  each = λ k. (
    (λ has. hit_found rects entries w k h.each (contains_on _ k (Contains-permutation found (hits w entries) k (IsPermutation-sym _ _ perm) has))),
    (λ is. Contains-permutation (hits w entries) found k perm (on_contains _ k
        (found_hit rects entries w k h.each (each_on rects entries k h (slice_get_within rects k is.0 is.1)) is.0 is.1 (share_meets is.0 w is.2)))),
  );
  ascending = IsStrictlyIncreasing-from_distinct found rising
      (IsDistinct-IsPermutation eqb flips (hits w entries) found perm
      (hits_apart w entries (IsDistinct-IsPermutation eqb flips _ _ h.once (range_apart (length rects)))));
}

-- the first stops have entries
pub record ArePlacedTo (rects : List Rect) (stops : List Stop) (n : ℕ) (entries : List Entry) : Type 0 where
  pub each_is : AllPlaced rects entries
  pub positions : map (λ (e : Entry). e.position) entries ≡ map (λ (s : Stop). s.position) (take n stops)

-- a stop's position is one of the list
pub stop_within : (rects : List Rect) (stops : List Stop) (i : ℕ) (d : Stop) → ArePlaced rects stops → i < length stops → (get_or stops i d).position < length rects
stop_within rects stops i d h lt =
    let all : All (λ k. k < length rects) (range_with_len 0 (length rects)) =
    λ k e in_range.
    let below : k < length rects = subst (λ m. k < m) (length-range_with_len 0 (length rects)) in_range in
    subst (λ n. n < length rects) (sym (get_or-range_with_len 0 (length rects) k e below ∙ (let f : 0 + k ≡ k = omega arith in f))) below in
    let placed = All-permutation (λ k. k < length rects) (range_with_len 0 (length rects)) (map (λ (s : Stop). s.position) stops) h all in
    let count : length (map (λ (s : Stop). s.position) stops) ≡ length stops = length-map stops (λ (s : Stop). s.position) in
    subst (λ n. n < length rects) (get_or-map (λ (s : Stop). s.position) stops i d (d.position) lt) (placed i d.position (subst (λ m. i < m) (sym count) lt))
  where
    get_or-map : {A B : Type 0} (f : A → B) (xs : List A) (i : ℕ) (d : A) (e : B) → i < length xs → get_or (map f xs) i e ≡ f (get_or xs i d)
    get_or-map f [] i d e lt = absurd (let z : ⊥ = omega arith in z)
    get_or-map f (x ∷ xs) zero d e lt = refl
    get_or-map f (x ∷ xs) (suc i) d e lt = get_or-map f xs i d e (omega arith)

-- one entry more
pub placed_more : (rects : List Rect) (stops : List Stop) (i : ℕ) (d : Stop) (entries : List Entry) (e : Entry) → i < length stops
    → slice_get rects e.position ≡ Some e.rect → e.position ≡ (get_or stops i d).position → ArePlacedTo rects stops i entries → ArePlacedTo rects stops (i + 1) (entries ++ e ∷ [])
placed_more rects stops i d entries e lt there same h = record {
  each_is = All-push (λ (e : Entry). slice_get rects e.position ≡ Some e.rect) entries e h.each_is there;
  positions =
      map-append (λ (e : Entry). e.position) entries (e ∷ [])
      ∙ ap (λ ks. ks ++ e.position ∷ []) h.positions
      ∙ ap (λ k. map (λ (s : Stop). s.position) (take i stops) ++ k ∷ []) same
      ∙ sym (map-append (λ (s : Stop). s.position) (take i stops) (get_or stops i d ∷ []))
      ∙ ap (map (λ (s : Stop). s.position)) (sym (take_more stops i d lt));
}

pub placed_all : (rects : List Rect) (stops : List Stop) (i : ℕ) (entries : List Entry) → ArePlaced rects stops → length stops ≤ i → ArePlacedTo rects stops i entries → AreEntries rects entries
placed_all rects stops i entries placed le h = record {
  each = h.each_is;
  once = subst (IsPermutation (range_with_len 0 (length rects)))
      (sym (h.positions ∙ ap (map (λ (s : Stop). s.position)) (take_all i stops le))) placed;
}

pub range_more : (n : ℕ) → range_with_len 0 n ++ n ∷ [] ≡ range_with_len 0 (n + 1)
range_more n =
    ap (λ ks. ks ++ n ∷ []) (sym (map-id (range_with_len 0 n)))
    ∙ sym (map-range_with_len_more (λ (k : ℕ). k) 0 n n (omega arith))
    ∙ map-id (range_with_len 0 (n + 1))

-- one stop more
pub stop_more : (stops : List Stop) (i : ℕ) (stop : Stop) → stop.position ≡ i → map (λ (s : Stop). s.position) stops ≡ range_with_len 0 i
    → map (λ (s : Stop). s.position) (stops ++ stop ∷ []) ≡ range_with_len 0 (i + 1)
stop_more stops i stop same h =
    map-append (λ (s : Stop). s.position) stops (stop ∷ [])
    ∙ ap (λ ks. ks ++ stop.position ∷ []) h ∙ ap (λ k. range_with_len 0 i ++ k ∷ []) same ∙ range_more i

-- stops in another order
pub stops_sorted : (rects : List Rect) (stops sorted : List Stop) → map (λ (s : Stop). s.position) stops ≡ range_with_len 0 (length rects) → IsPermutation stops sorted → ArePlaced rects sorted
stops_sorted rects stops sorted are perm =
    subst (λ ks. IsPermutation ks (map (λ (s : Stop). s.position) sorted)) are (IsPermutation-map (λ (s : Stop). s.position) stops sorted perm)
