-- Sums of weights, row by row.
use Rattle.std.proofs.Common.{◌≡◌, inl, inr, ℕ, suc, ℤ, pos, ◌+ℤ◌, ◌-ℤ◌, ◌≤ℤ◌, ◌<ℤ◌, ◌<◌, ◌+◌, List, [], ◌∷◌, ◌++◌, Bool, true, false, ◌&&◌, ◌||◌, length, take, get_or, append_assoc, refl, sym, ◌∙◌, ap, subst, arith, int_le, int_lt, if◌then◌else◌}
use Rattle.base_laws.proofs.Tests.{if_true, if_false, lt_to, le_to, lt_from}
use Rattle.std.proofs.lemmas.Int.{ints, by_lt_z}
use Rattle.std.proofs.lemmas.Bool.{false≢true, cases_Bool, or_parts, and_parts}
use Rattle.std.proofs.lemmas.List.{take_more, take_all}
use Rattle.std.proofs.lemmas.List.Elements.{All-nil, All-cons, All-append}
use Rattle.std.proofs.lemmas.List.Sums.{sum_by-cons}
use Rattle.std.proofs.lemmas.List.Sorted.{sum_by-IsPermutation}
use Rattle.std.specs.List.{All, sum_by}
use Rattle.std.specs.List.Sorted.{IsPermutation}
use Rattle.std.specs.Ordering.{is_lt, int_cmp}
use Rattle.geo_base.specs.Rects.{is_between}
use Rattle.rect_sets.specs.Edges.{first_of, second_of, crosses, total, is_some, IsEdge}
use Rattle.rect_sets.specs.Sums.{AreSums, lower, upper, ends_of, first_change, second_change, sum_of, seen_from, AreFrom, AreRisingEnds, piece, IsBegun, GoesUp, IsStep, IsSummed, first_y, next_edge, start}
use Rattle.rect_sets.specs.EdgeCuts.{in_rows}
use Rattle.rect_sets.specs.declared.sums.Begun.{Begun}
use Rattle.rect_sets.specs.declared.row.Edge.{Edge}
use Rattle.rect_sets.specs.declared.sums.End.{End}
use Rattle.rect_sets.proofs.Combining.{sum_append}
use Rattle.rect_sets.proofs.Dividing.{lt_false, le_false}
use Rattle.rect_sets.proofs.Sorting.{up_part, down_part, two_parts}

-- sorted ends

from_sorted : (y : ℤ) (ds : List End) → ((d : End) → 0 < length ds → y ≤ℤ (get_or ds 0 d).y) → ((k : ℕ) (d : End) → k + 1 < length ds → (get_or ds k d).y ≤ℤ (get_or ds (k + 1) d).y) → AreFrom y ds
from_sorted y [] f h = tt
from_sorted y (e ∷ ds) f h = (
  f e (omega arith),
  from_sorted e.y ds (λ d lt. subst (λ (q : End). e.y ≤ℤ q.y) (second e ds d) (h 0 d (omega arith)))
      (λ k d lt. subst (λ (q : End). (get_or ds k d).y ≤ℤ q.y) (later e ds k d) (h (suc k) d (omega arith))),
)
  where
    second : (e : End) (xs : List End) (d : End) → get_or (e ∷ xs) (0 + 1) d ≡ get_or xs 0 d
    second e xs d = let one : 0 + 1 ≡ suc 0 = omega arith in ap (λ n. get_or (e ∷ xs) n d) one

    later : (e : End) (xs : List End) (k : ℕ) (d : End) → get_or (e ∷ xs) (suc k + 1) d ≡ get_or xs (k + 1) d
    later e xs k d = let one : suc k + 1 ≡ suc (k + 1) = omega arith in ap (λ n. get_or (e ∷ xs) n d) one

not_after : (a b : ℤ) → is_lt (int_cmp b a) ≡ false → a ≤ℤ b
not_after a b h = by_lt_z b a (λ lt. absurd (false≢true (sym h ∙ less a b lt))) (λ le. le)
  where
    less : (a b : ℤ) → b <ℤ a → is_lt (int_cmp b a) ≡ true
    less a b h = grind (arith, ints)

pub rising_ends : (ds : List End) → ((k : ℕ) (d : End) → k + 1 < length ds → is_lt (int_cmp (get_or ds (k + 1) d).y (get_or ds k d).y) ≡ false) → AreRisingEnds ds
rising_ends [] h = tt
rising_ends (e ∷ ds) h = from_sorted e.y ds
    (λ d lt. let one : 0 + 1 ≡ suc 0 = omega arith in not_after e.y (get_or ds 0 d).y (subst (λ (n : ℕ). is_lt (int_cmp (get_or (e ∷ ds) n d).y e.y) ≡ false) one (h 0 d (omega arith))))
    (λ k d lt. let one : suc k + 1 ≡ suc (k + 1) = omega arith in not_after (get_or ds k d).y (get_or ds (k + 1) d).y (subst (λ (n : ℕ). is_lt (int_cmp (get_or (e ∷ ds) n d).y (get_or ds k d).y) ≡ false) one (h (suc k) d (omega arith))))

-- sums over ends in another order

sum_parts : (value : End → ℤ) (ds : List End) → (sum_of value ds +ℤ pos (sum_by (λ d. down_part (value d)) ds)) ≡ pos (sum_by (λ d. up_part (value d)) ds)
sum_parts value [] = omega (arith, ints)
sum_parts value (d ∷ ds) =
    let l = sum_by-cons (λ d. down_part (value d)) d ds in
    let u = sum_by-cons (λ d. up_part (value d)) d ds in
    let t = two_parts (value d) in
    let r = sum_parts value ds in
    omega (arith, ints, l, u, t, r)

sum_permuted : (value : End → ℤ) (xs ys : List End) → IsPermutation xs ys → sum_of value ys ≡ sum_of value xs
sum_permuted value xs ys p =
    let d = sum_by-IsPermutation (λ d. down_part (value d)) xs ys p in
    let u = sum_by-IsPermutation (λ d. up_part (value d)) xs ys p in
    let a = sum_parts value xs in
    let b = sum_parts value ys in
    omega (arith, ints, d, u, a, b)

-- the ends of an edge add its weight to the rows that it crosses, and nothing in all

two_ends : (y1 y2 row w : ℤ) → y1 <ℤ y2 → ((if int_le y1 row then w else pos 0) +ℤ (if int_le y2 row then (pos 0 -ℤ w) else pos 0)) ≡ (if is_between y1 row y2 then w else pos 0)
two_ends y1 y2 row w h = by_lt_z row y1
    (λ lt. grind (arith, ints))
    (λ le. by_lt_z row y2 (λ lt. grind (arith, ints)) (λ more. grind (arith, ints)))

first_total : (row : ℤ) (es : List Edge) → All IsEdge es → sum_of (seen_from first_change row) (ends_of es) ≡ total first_of es row
first_total row [] h = refl
first_total row (e ∷ es) h =
    let own : IsEdge e = h 0 e (omega arith) in
    let rest = first_total row es (λ k d lt. h (suc k) d (omega arith)) in
    let two = two_ends e.y1 e.y2 row e.first own.some in
    omega (arith, ints, rest, two)

second_total : (row : ℤ) (es : List Edge) → All IsEdge es → sum_of (seen_from second_change row) (ends_of es) ≡ total second_of es row
second_total row [] h = refl
second_total row (e ∷ es) h =
    let own : IsEdge e = h 0 e (omega arith) in
    let rest = second_total row es (λ k d lt. h (suc k) d (omega arith)) in
    let two = two_ends e.y1 e.y2 row e.second own.some in
    omega (arith, ints, rest, two)

first_end : (es : List Edge) → sum_of first_change (ends_of es) ≡ pos 0
first_end [] = refl
first_end (e ∷ es) = let rest = first_end es in omega (arith, ints, rest)

second_end : (es : List Edge) → sum_of second_change (ends_of es) ≡ pos 0
second_end [] = refl
second_end (e ∷ es) = let rest = second_end es in omega (arith, ints, rest)

-- no end is seen from a row below all

none_seen : (change : End → ℤ) (row from : ℤ) (ds : List End) → row <ℤ from → AreFrom from ds → sum_of (seen_from change row) ds ≡ pos 0
none_seen change row from [] lt h = refl
none_seen change row from (d ∷ ds) lt h =
    let low = h.0 in
    let less : row <ℤ d.y = omega (arith, ints) in
    let own = if_false (int_le d.y row) (change d) (pos 0) (le_false d.y row less) in
    let rest = none_seen change row d.y ds less h.1 in
    omega (arith, ints, own, rest)

-- an edge that has no rows or no weights has no sums

no_rows : (y1 y2 row : ℤ) → y2 ≤ℤ y1 → is_between y1 row y2 ≡ false
no_rows y1 y2 row h = grind (arith, ints)

no_weight : (w : ℤ) → is_some w ≡ false → w ≡ pos 0
no_weight w h = grind (arith, ints)

of_zero : (b : Bool) (w : ℤ) → w ≡ pos 0 → pos 0 ≡ ((if b then w else pos 0) +ℤ pos 0)
of_zero true w h = omega (arith, ints)
of_zero false w h = omega (arith, ints)

of_none : (b : Bool) (w : ℤ) → b ≡ false → pos 0 ≡ ((if b then w else pos 0) +ℤ pos 0)
of_none true w h = absurd (false≢true (sym h))
of_none false w h = omega (arith, ints)

lost : (y1 y2 w v : ℤ) → (int_lt y1 y2 && (is_some w || is_some v)) ≡ false → (row : ℤ) → (pos 0 ≡ ((if is_between y1 row y2 then w else pos 0) +ℤ pos 0)) × (pos 0 ≡ ((if is_between y1 row y2 then v else pos 0) +ℤ pos 0))
lost y1 y2 w v h row = by_lt_z y1 y2
    (λ lt. let n = or_parts (is_some w) (is_some v) (sym (ap (λ b. b && (is_some w || is_some v)) (lt_to y1 y2 lt)) ∙ h) in
    (of_zero (is_between y1 row y2) w (no_weight w n.0), of_zero (is_between y1 row y2) v (no_weight v n.1)))
    (λ le. (of_none (is_between y1 row y2) w (no_rows y1 y2 row le), of_none (is_between y1 row y2) v (no_rows y1 y2 row le)))

pub piece_first : (e : Edge) (row : ℤ) → total first_of (piece e) row ≡ total first_of (e ∷ []) row
piece_first e row = elim (cases_Bool (int_lt e.y1 e.y2 && (is_some e.first || is_some e.second))) [
  | inl t ↦ ap (λ xs. total first_of xs row) (if_true _ (e ∷ []) [] t)
  | inr f ↦ ap (λ xs. total first_of xs row) (if_false _ (e ∷ []) [] f) ∙ (lost e.y1 e.y2 e.first e.second f row).0
]

pub piece_second : (e : Edge) (row : ℤ) → total second_of (piece e) row ≡ total second_of (e ∷ []) row
piece_second e row = elim (cases_Bool (int_lt e.y1 e.y2 && (is_some e.first || is_some e.second))) [
  | inl t ↦ ap (λ xs. total second_of xs row) (if_true _ (e ∷ []) [] t)
  | inr f ↦ ap (λ xs. total second_of xs row) (if_false _ (e ∷ []) [] f) ∙ (lost e.y1 e.y2 e.first e.second f row).1
]

pub piece_all : (P : Edge → Type 0) (e : Edge) → (e.y1 <ℤ e.y2 → P e) → All P (piece e)
piece_all P e h = elim (cases_Bool (int_lt e.y1 e.y2 && (is_some e.first || is_some e.second))) [
  | inl t ↦ subst (λ (xs : List Edge). All P xs) (sym (if_true _ (e ∷ []) [] t)) (All-cons P e [] (h (lt_from e.y1 e.y2 ((and_parts (int_lt e.y1 e.y2) _ t).0))) (All-nil P))
  | inr f ↦ subst (λ (xs : List Edge). All P xs) (sym (if_false _ (e ∷ []) [] f)) (All-nil P)
]

pub pieces_edges : (out : List Edge) (e : Edge) → All IsEdge out → All IsEdge (out ++ piece e)
pieces_edges out e h = All-append IsEdge out (piece e) h (piece_all IsEdge e (λ lt. record { some = lt }))

pub pieces_line : (x : ℤ) (out : List Edge) (e : Edge) → e.x ≡ x → All (λ f. f.x ≡ x) out → All (λ f. f.x ≡ x) (out ++ piece e)
pieces_line x out e same h = All-append (λ (f : Edge). f.x ≡ x) out (piece e) h (piece_all (λ (f : Edge). f.x ≡ x) e (λ lt. same))

-- one step up

longer : (y1 y2 y row w : ℤ) → y1 ≤ℤ y2 → y2 ≤ℤ y → (if is_between y1 row y then w else pos 0) ≡ ((if is_between y1 row y2 then w else pos 0) +ℤ (if is_between y2 row y then w else pos 0))
longer y1 y2 y row w h g = by_lt_z row y1
    (λ a. grind (arith, ints))
    (λ a. by_lt_z row y2 (λ b. grind (arith, ints)) (λ b. by_lt_z row y (λ d. grind (arith, ints)) (λ d. grind (arith, ints))))

pub reaches : (o y1 y2 y row w above : ℤ) → w ≡ above → y1 ≤ℤ y2 → y2 ≤ℤ y → (o +ℤ ((if is_between y1 row y then w else pos 0) +ℤ pos 0)) ≡ ((o +ℤ ((if is_between y1 row y2 then w else pos 0) +ℤ pos 0)) +ℤ (if is_between y2 row y then above else pos 0))
reaches o y1 y2 y row w above same h g =
    let l = longer y1 y2 y row w h g in
    let s : (if is_between y2 row y then w else pos 0) ≡ (if is_between y2 row y then above else pos 0) = ap (λ (v : ℤ). if is_between y2 row y then v else pos 0) same in
    omega (arith, ints, l, s)

pub stands : (o y2 y row above : ℤ) → y2 ≡ y → o ≡ (o +ℤ (if is_between y2 row y then above else pos 0))
stands o y2 y row above same =
    let n = if_false (is_between y2 row y) above (pos 0) (no_rows y2 y row (omega (arith, ints))) in omega (arith, ints, n)

pub begins_first : (old : List Edge) (e : Edge) (v row : ℤ) → (total first_of (old ++ piece e) row +ℤ (v +ℤ pos 0)) ≡ ((total first_of old row +ℤ total first_of (e ∷ []) row) +ℤ v)
begins_first old e v row = let a = sum_append (crosses row) first_of old (piece e) in let p = piece_first e row in omega (arith, ints, a, p)

pub begins_second : (old : List Edge) (e : Edge) (v row : ℤ) → (total second_of (old ++ piece e) row +ℤ (v +ℤ pos 0)) ≡ ((total second_of old row +ℤ total second_of (e ∷ []) row) +ℤ v)
begins_second old e v row = let a = sum_append (crosses row) second_of old (piece e) in let p = piece_second e row in omega (arith, ints, a, p)

-- from end to end

pub from_first : (ds : List End) → AreRisingEnds ds → AreFrom (first_y ds) ds
from_first [] h = tt
from_first (d ∷ ds) h = (omega (arith, ints), h)

pub summed_none : (field : Edge → ℤ) (change : End → ℤ) (ds : List End) (e : Edge) → e.y2 ≡ first_y ds → AreRisingEnds ds → ((row : ℤ) → total field (e ∷ []) row ≡ pos 0) → sum_of change ds ≡ pos 0 → IsSummed field change ds ds [] e (pos 0)
summed_none field change ds e at rising none end = record {
  rows = λ row. let n = none row in by_lt_z row e.y2
      (λ lt. let i = if_true (int_lt row e.y2) (pos 0) (pos 0 +ℤ sum_of (seen_from change row) ds) (lt_to row e.y2 lt) in
      let z = none_seen change row (first_y ds) ds (omega (arith, ints)) (from_first ds rising) in omega (arith, ints, n, i, z))
      (λ le. let i = if_false (int_lt row e.y2) (pos 0) (pos 0 +ℤ sum_of (seen_from change row) ds) (lt_false row e.y2 le) in omega (arith, ints, n, i));
  end = omega (arith, ints, end);
}

pub summed_more : (field : Edge → ℤ) (change : End → ℤ) (all : List End) (d : End) (rest : List End) (old new : List Edge) (last e : Edge) (above : ℤ) → IsSummed field change all (d ∷ rest) old last above → AreFrom last.y2 (d ∷ rest) → e.y2 ≡ d.y → GoesUp field last above d.y old new e → IsSummed field change all rest new e (above +ℤ change d)
summed_more field change all d rest old new last e above h from to up = record {
  rows = λ row.
      let p = h.rows row in
      let g = up row in
      let low = from.0 in
      by_lt_z row last.y2
      (λ lt.
      let a = if_true (int_lt row last.y2) (pos 0) (above +ℤ sum_of (seen_from change row) (d ∷ rest)) (lt_to row last.y2 lt) in
      let b = if_false (is_between last.y2 row d.y) above (pos 0) (under last.y2 row d.y lt) in
      let c = if_true (int_lt row e.y2) (pos 0) ((above +ℤ change d) +ℤ sum_of (seen_from change row) rest) (lt_to row e.y2 (omega (arith, ints))) in
      omega (arith, ints, p, g, a, b, c))
      (λ le. by_lt_z row d.y
      (λ lt.
      let a = if_false (int_lt row last.y2) (pos 0) (above +ℤ sum_of (seen_from change row) (d ∷ rest)) (lt_false row last.y2 le) in
      let b = if_true (is_between last.y2 row d.y) above (pos 0) (between last.y2 row d.y le lt) in
      let c = if_true (int_lt row e.y2) (pos 0) ((above +ℤ change d) +ℤ sum_of (seen_from change row) rest) (lt_to row e.y2 (omega (arith, ints))) in
      let z = none_seen change row d.y (d ∷ rest) lt (omega (arith, ints), from.1) in
      omega (arith, ints, p, g, a, b, c, z))
      (λ more.
      let a = if_false (int_lt row last.y2) (pos 0) (above +ℤ sum_of (seen_from change row) (d ∷ rest)) (lt_false row last.y2 le) in
      let b = if_false (is_between last.y2 row d.y) above (pos 0) (over last.y2 row d.y more) in
      let c = if_false (int_lt row e.y2) (pos 0) ((above +ℤ change d) +ℤ sum_of (seen_from change row) rest) (lt_false row e.y2 (omega (arith, ints))) in
      let s = if_true (int_le d.y row) (change d) (pos 0) (le_to d.y row more) in
      omega (arith, ints, p, g, a, b, c, s)));
  end = let z = h.end in omega (arith, ints, z);
}
  where
    under : (a row b : ℤ) → row <ℤ a → is_between a row b ≡ false
    under a row b h = grind (arith, ints)

    between : (a row b : ℤ) → a ≤ℤ row → row <ℤ b → is_between a row b ≡ true
    between a row b h g = grind (arith, ints)

    over : (a row b : ℤ) → b ≤ℤ row → is_between a row b ≡ false
    over a row b h = grind (arith, ints)

summed_all : (field : Edge → ℤ) (change : End → ℤ) (all : List End) (out : List Edge) (last : Edge) (above : ℤ) → ((row : ℤ) → total field (piece last) row ≡ total field (last ∷ []) row) → IsSummed field change all [] out last above → (row : ℤ) → total field (out ++ piece last) row ≡ sum_of (seen_from change row) all
summed_all field change all out last above alone h row =
    let p = h.rows row in
    let end = h.end in
    let one = alone row in
    let a = sum_append (crosses row) field out (piece last) in
    by_lt_z row last.y2
    (λ lt. let i = if_true (int_lt row last.y2) (pos 0) (above +ℤ pos 0) (lt_to row last.y2 lt) in omega (arith, ints, p, end, one, a, i))
    (λ le. let i = if_false (int_lt row last.y2) (pos 0) (above +ℤ pos 0) (lt_false row last.y2 le) in omega (arith, ints, p, end, one, a, i))

pub first_none : (es : List Edge) (ds : List End) → IsPermutation (ends_of es) ds → sum_of first_change ds ≡ pos 0
first_none es ds p = sum_permuted first_change (ends_of es) ds p ∙ first_end es

pub second_none : (es : List Edge) (ds : List End) → IsPermutation (ends_of es) ds → sum_of second_change ds ≡ pos 0
second_none es ds p = sum_permuted second_change (ends_of es) ds p ∙ second_end es

pub are_sums : (x : ℤ) (es : List Edge) (ds : List End) (out : List Edge) (last : Edge) (first second : ℤ) → All IsEdge es → IsPermutation (ends_of es) ds → last.x ≡ x → All IsEdge out → All (λ e. e.x ≡ x) out → IsSummed first_of first_change ds [] out last first → IsSummed second_of second_change ds [] out last second → AreSums x es (out ++ piece last)
are_sums x es ds out last first second h p at sound line one two = record {
  sound = pieces_edges out last sound;
  line = pieces_line x out last at line;
  first = λ row. summed_all first_of first_change ds out last first (piece_first last) one row ∙ sum_permuted (seen_from first_change row) (ends_of es) ds p ∙ first_total row es h;
  second = λ row. summed_all second_of second_change ds out last second (piece_second last) two row ∙ sum_permuted (seen_from second_change row) (ends_of es) ds p ∙ second_total row es h;
}

-- the loop over the edges

ends_push : (xs : List Edge) (e : Edge) → ends_of (xs ++ e ∷ []) ≡ ends_of xs ++ (lower e ∷ upper e ∷ [])
ends_push [] e = refl
ends_push (x ∷ xs) e = ap (λ (q : List End). lower x ∷ upper x ∷ q) (ends_push xs e)

pub ends_more : (es : List Edge) (i : ℕ) (d : Edge) (out : List End) → i < length es → out ≡ ends_of (take i es) → ((out ++ lower (get_or es i d) ∷ []) ++ upper (get_or es i d) ∷ []) ≡ ends_of (take (i + 1) es)
ends_more es i d out lt e =
    append_assoc out (lower (get_or es i d) ∷ []) (upper (get_or es i d) ∷ []) ∙ ap (λ (q : List End). q ++ (lower (get_or es i d) ∷ upper (get_or es i d) ∷ [])) e ∙
    sym (ends_push (take i es) (get_or es i d)) ∙ ap ends_of (sym (take_more es i d lt))

pub ends_all : (es : List Edge) (i : ℕ) (out : List End) → length es < i + 1 → out ≡ ends_of (take i es) → out ≡ ends_of es
ends_all es i out le e = e ∙ ap ends_of (take_all i es (omega arith))

-- the three ways up

pub step_on : (b : Begun) (y : ℤ) (out : List Edge) → b.edge.first ≡ b.first → b.edge.second ≡ b.second → IsBegun b → b.edge.y2 ≤ℤ y → IsStep b y out out (in_rows b.edge b.edge.y1 y)
step_on b y out one two h le =
    let o = h.ordered in
    record {
      ordered = omega (arith, ints);
      to = refl;
      same_x = refl;
      sound = λ a. a;
      line = λ x e a. a;
      first = λ row. reaches (total first_of out row) b.edge.y1 b.edge.y2 y row b.edge.first b.first one h.ordered le;
      second = λ row. reaches (total second_of out row) b.edge.y1 b.edge.y2 y row b.edge.second b.second two h.ordered le;
    }

pub step_none : (b : Begun) (y : ℤ) (out : List Edge) → b.edge.y2 ≡ y → IsBegun b → IsStep b y out out b.edge
step_none b y out same h = record {
  ordered = h.ordered;
  to = same;
  same_x = refl;
  sound = λ a. a;
  line = λ x e a. a;
  first = λ row. stands _ b.edge.y2 y row b.first same;
  second = λ row. stands _ b.edge.y2 y row b.second same;
}

pub step_next : (b : Begun) (d : End) (out : List Edge) → b.edge.y2 ≤ℤ d.y → IsStep b d.y out (out ++ piece b.edge) (next_edge b d)
step_next b d out le = record {
  ordered = le;
  to = refl;
  same_x = refl;
  sound = λ a. pieces_edges out b.edge a;
  line = λ x e a. pieces_line x out b.edge e a;
  first = λ row. begins_first out b.edge _ row;
  second = λ row. begins_second out b.edge _ row;
}

-- where it begins

zero_weight : (b : Bool) → ((if b then pos 0 else pos 0) +ℤ pos 0) ≡ pos 0
zero_weight true = refl
zero_weight false = refl

pub start_first : (x : ℤ) (es : List Edge) (ds : List End) → AreRisingEnds ds → IsPermutation (ends_of es) ds → IsSummed first_of first_change ds ds [] (start x ds).edge (pos 0)
start_first x es ds rising p = summed_none first_of first_change ds (start x ds).edge refl rising (λ row. zero_weight (is_between (first_y ds) row (first_y ds))) (first_none es ds p)

pub start_second : (x : ℤ) (es : List Edge) (ds : List End) → AreRisingEnds ds → IsPermutation (ends_of es) ds → IsSummed second_of second_change ds ds [] (start x ds).edge (pos 0)
start_second x es ds rising p = summed_none second_of second_change ds (start x ds).edge refl rising (λ row. zero_weight (is_between (first_y ds) row (first_y ds))) (second_none es ds p)
