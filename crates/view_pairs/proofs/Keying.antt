-- Equal texts are found by their keys; and the couples of what is alone on both sides are first.
use Rattle.std.proofs.Common.{◌≡◌, ◌≢◌, ◌⊎◌, inl, inr, ◌∙◌, ℕ, zero, suc, ◌+◌, ◌<◌, Bool, true, false, List, [], ◌∷◌, ◌++◌, length, get_or, replicate, Option, Some, None, slice_get, slice_index, slice_set, refl, sym, ap, subst, arith, append_assoc, append-nil}
use Rattle.base_laws.proofs.Items.{get_left, get_last, item_at}
use Rattle.std.proofs.lemmas.Bool.{cases_Bool}
use Rattle.std.specs.Prelude.{bytes_eq}
use Rattle.std.specs.List.{list_any}
use Rattle.std.proofs.lemmas.List.{length-replicate}
use Rattle.std.proofs.lemmas.Slice.Eq.{bytes_eq-Decides}
use Rattle.std.proofs.lemmas.Option.{slice_get_within, get_or_from_slice_get}
use Rattle.match_laws.specs.Circuits.{IsOneToOne}
use Rattle.match_laws.proofs.Sums.{index_one}
use Rattle.plain_netlist.specs.Lists.{AreApart, IsListed}
use Rattle.plain_netlist.proofs.Listing.{apart_at, at_apart}
use Rattle.plain_netlist.proofs.Members.{either_side, listed}
use Rattle.text_table.specs.Texts.{has_text, place_of, with_text}
use Rattle.view_pairs.specs.Keys.{AreFound, AreKeys, Extends, IsKey, IsPut, couple_at, couple_to, couples_from}
use Rattle.view_pairs.specs.Only.{AreKeysFirst, AreOnlyFirst, IsOnly, in_order}
use Rattle.view_pairs.specs.Partners.{IsFirst, sure}
use Rattle.view_pairs.specs.declared.partners.Couple.{Couple}
use Rattle.view_pairs.proofs.Firsts.{set_other, set_same}

-- ---- a table of texts

text_listed : (texts : List (List ℕ)) (t : List ℕ) → has_text texts t ≡ true → IsListed t texts
text_listed [] t h = absurd (let e : false ≡ true = h in cc)
text_listed (x ∷ texts) t h = elim (cases_Bool (bytes_eq t x)) [
  | inl y ↦ inl ((bytes_eq-Decides t x).0 y)
  | inr n ↦ inr (text_listed texts t (let g : list_any (bytes_eq t) (x ∷ texts) ≡ true = h in rw n at g))
]

listed_text : (texts : List (List ℕ)) (t : List ℕ) → IsListed t texts → has_text texts t ≡ true
listed_text [] t h = absurd h
listed_text (x ∷ texts) t (inl e) = let y : bytes_eq t x ≡ true = (bytes_eq-Decides t x).1 e in rw y refl
listed_text (x ∷ texts) t (inr h) = elim (cases_Bool (bytes_eq t x)) [
  | inl y ↦ rw y refl
  | inr n ↦ rw n (listed_text texts t h)
]

place_past : (texts : List (List ℕ)) (x t : List ℕ) → bytes_eq t x ≡ false → place_of (x ∷ texts) t ≡ suc (place_of texts t)
place_past texts x t n = rw n (let q : 1 + place_of texts t ≡ suc (place_of texts t) = omega arith in q)

-- a text stands at its place
text_at : (texts : List (List ℕ)) (t : List ℕ) → has_text texts t ≡ true → slice_get texts (place_of texts t) ≡ Some t
text_at [] t h = absurd (let e : false ≡ true = h in cc)
text_at (x ∷ texts) t h = elim (cases_Bool (bytes_eq t x)) [
  | inl y ↦
      let here : place_of (x ∷ texts) t ≡ 0 = rw y refl in
      ap (λ (i : ℕ). slice_get (x ∷ texts) i) here ∙ ap Some (sym ((bytes_eq-Decides t x).0 y))
  | inr n ↦
      let more : has_text texts t ≡ true = (let g : list_any (bytes_eq t) (x ∷ texts) ≡ true = h in rw n at g) in
      ap (λ (i : ℕ). slice_get (x ∷ texts) i) (place_past texts x t n) ∙ text_at texts t more
]

-- one that isn't there would stand last
place_none : (texts : List (List ℕ)) (t : List ℕ) → has_text texts t ≡ false → place_of texts t ≡ length texts
place_none [] t h = refl
place_none (x ∷ texts) t h = elim (cases_Bool (bytes_eq t x)) [
  | inl y ↦ absurd (let g : list_any (bytes_eq t) (x ∷ texts) ≡ false = h in let e : true ≡ false = rw y at g in cc)
  | inr n ↦
      let less : has_text texts t ≡ false = (let g : list_any (bytes_eq t) (x ∷ texts) ≡ false = h in rw n at g) in
      place_past texts x t n ∙ ap suc (place_none texts t less)
]

pub with_extends : (texts : List (List ℕ)) (t : List ℕ) → Extends texts (with_text texts t)
with_extends texts t i x h = elim (cases_Bool (has_text texts t)) [
  | inl y ↦ rw y h
  | inr n ↦ rw n (get_left texts (t ∷ []) i x h)
]

pub with_at : (texts : List (List ℕ)) (t : List ℕ) → slice_get (with_text texts t) (place_of texts t) ≡ Some t
with_at texts t = elim (cases_Bool (has_text texts t)) [
  | inl y ↦ rw y (text_at texts t y)
  | inr n ↦ rw n (ap (λ (i : ℕ). slice_get (texts ++ t ∷ []) i) (place_none texts t n) ∙ get_last texts t)
]

apart_more : (texts : List (List ℕ)) (t : List ℕ) → AreApart texts → (IsListed t texts → ⊥) → AreApart (texts ++ t ∷ [])
apart_more [] t a not = ((λ h. h), tt)
apart_more (x ∷ texts) t a not = (
  (λ h. elim (either_side texts (t ∷ []) x h) [
    | inl k ↦ a.0 k
    | inr k ↦ elim k [ inl e ↦ not (inl (sym e)) | inr z ↦ z ]
  ]),
  apart_more texts t a.1 (λ h. not (inr h)),
)

pub with_apart : (texts : List (List ℕ)) (t : List ℕ) → AreApart texts → AreApart (with_text texts t)
with_apart texts t a = elim (cases_Bool (has_text texts t)) [
  | inl y ↦ rw y a
  | inr n ↦ rw n (apart_more texts t a (λ h. let e : true ≡ false = sym (listed_text texts t h) ∙ n in cc))
]

pub extends_on : (a b c : List (List ℕ)) → Extends a b → Extends b c → Extends a c
extends_on a b c f g i x h = g i x (f i x h)

pub extends_same : (a : List (List ℕ)) → Extends a a
extends_same a i x h = h

-- ---- keys

key_stays : (passes : List ℕ → Bool) (a b : List (List ℕ)) (t : List ℕ) (key : Option ℕ) → Extends a b → IsKey passes a t key → IsKey passes b t key
key_stays passes a b t None f h = h
key_stays passes a b t (Some x) f h = f x t h

pub keys_stay : (passes : List ℕ → Bool) (a b ts : List (List ℕ)) (keys : List (Option ℕ)) → Extends a b → AreKeys passes a ts keys → AreKeys passes b ts keys
keys_stay passes a b [] [] f h = tt
keys_stay passes a b [] (key ∷ keys) f h = absurd h
keys_stay passes a b (t ∷ ts) [] f h = absurd h
keys_stay passes a b (t ∷ ts) (key ∷ keys) f h = (key_stays passes a b t key f h.0, keys_stay passes a b ts keys f h.1)

pub keys_more : (passes : List ℕ → Bool) (a ts : List (List ℕ)) (keys : List (Option ℕ)) (t : List ℕ) (key : Option ℕ)
    → AreKeys passes a ts keys → IsKey passes a t key → AreKeys passes a (ts ++ t ∷ []) (keys ++ key ∷ [])
keys_more passes a [] [] t key h k = (k, tt)
keys_more passes a [] (z ∷ keys) t key h k = absurd h
keys_more passes a (s ∷ ts) [] t key h k = absurd h
keys_more passes a (s ∷ ts) (z ∷ keys) t key h k = (h.0, keys_more passes a ts keys t key h.1 k)

-- the text of a key
key_text : (passes : List ℕ → Bool) (a ts : List (List ℕ)) (keys : List (Option ℕ)) (j x : ℕ) → AreKeys passes a ts keys
    → slice_get keys j ≡ Some (Some x) → (t : List ℕ) × (slice_get ts j ≡ Some t) × (slice_get a x ≡ Some t)
key_text passes a [] [] j x h at = absurd (let e : None ≡ Some (Some x) = at in cc)
key_text passes a [] (key ∷ keys) j x h at = absurd h
key_text passes a (t ∷ ts) [] j x h at = absurd h
key_text passes a (t ∷ ts) (key ∷ keys) zero x h at =
    let same : key ≡ Some x = (let e : Some key ≡ Some (Some x) = at in cc) in
    (t, refl, subst (IsKey passes a t) same h.0)
key_text passes a (t ∷ ts) (key ∷ keys) (suc j) x h at = key_text passes a ts keys j x h.1 at

-- the key of a text
a_key : (passes : List ℕ → Bool) (a : List (List ℕ)) (t : List ℕ) (key : Option ℕ) → IsKey passes a t key → passes t ≡ true → (x : ℕ) × (key ≡ Some x) × (slice_get a x ≡ Some t)
a_key passes a t None h passing = absurd (let e : true ≡ false = sym passing ∙ h in cc)
a_key passes a t (Some x) h passing = (x, refl, h)

text_key : (passes : List ℕ → Bool) (a ts : List (List ℕ)) (keys : List (Option ℕ)) (j : ℕ) (t : List ℕ) → AreKeys passes a ts keys
    → slice_get ts j ≡ Some t → passes t ≡ true → (x : ℕ) × (slice_get keys j ≡ Some (Some x)) × (slice_get a x ≡ Some t)
text_key passes a [] keys j t h at passing = absurd (let e : None ≡ Some t = at in cc)
text_key passes a (s ∷ ts) [] j t h at passing = absurd h
text_key passes a (s ∷ ts) (key ∷ keys) zero t h at passing =
    let same : s ≡ t = (let e : Some s ≡ Some t = at in cc) in
    let k = a_key passes a t key (subst (λ (z : List ℕ). IsKey passes a z key) same h.0) passing in
    (k.0, ap Some k.1, k.2)
text_key passes a (s ∷ ts) (key ∷ keys) (suc j) t h at passing = text_key passes a ts keys j t h.1 at passing

-- what stands alone has a key alone
only_key : (passes : List ℕ → Bool) (a ts : List (List ℕ)) (keys : List (Option ℕ)) (k x : ℕ) (t : List ℕ) → AreKeys passes a ts keys
    → IsOnly t k ts → slice_get keys k ≡ Some (Some x) → slice_get a x ≡ Some t → IsOnly (Some x) k keys
only_key passes a ts keys k x t h only at is = (
  at,
  (λ j there.
      let r = key_text passes a ts keys j x h there in
      let same : r.0 ≡ t = (let e : Some r.0 ≡ Some t = sym r.2 ∙ is in cc) in
      only.1 j (r.1 ∙ ap Some same)),
)

pub only_texts : (passes : List ℕ → Bool) (a ls rs : List (List ℕ)) (lefts rights : List (Option ℕ)) (couples : List Couple) → AreApart a
    → AreKeys passes a ls lefts → AreKeys passes a rs rights → AreKeysFirst (length a) lefts rights couples → AreOnlyFirst passes ls rs couples
only_texts passes a ls rs lefts rights couples apart hl hr first t k m passing left right =
    let x = text_key passes a ls lefts k t hl left.0 passing in
    let y = text_key passes a rs rights m t hr right.0 passing in
    let same : y.0 ≡ x.0 = apart_at t a y.0 x.0 apart y.2 x.2 in
    first x.0 k m (slice_get_within a x.0 t x.2) (only_key passes a ls lefts k x.0 t hl left x.1 x.2)
    (only_key passes a rs rights m x.0 t hr right (y.1 ∙ ap (λ (z : ℕ). Some (Some z)) same) x.2)

-- ---- places of keys

-- of the first i keys
pub record FoundSoFar (keys : List (Option ℕ)) (count i : ℕ) (places : List (Option ℕ)) : Type 0 where
  pub long : length places ≡ count
  pub at : (x m : ℕ) → slice_get places x ≡ Some (Some m) → slice_get keys m ≡ Some (Some x)
  pub some : (x m : ℕ) → m < i → slice_get keys m ≡ Some (Some x) → x < count → (j : ℕ) × (slice_get places x ≡ Some (Some j))

none_at : (n k m : ℕ) → slice_get (replicate n None) k ≡ Some (Some m) → ⊥
none_at zero k m h = let e : None ≡ Some (Some m) = h in cc
none_at (suc n) zero m h = let e : Some None ≡ Some (Some m) = h in cc
none_at (suc n) (suc k) m h = none_at n k m h

pub none_found : (keys : List (Option ℕ)) (count : ℕ) → FoundSoFar keys count 0 (replicate count None)
none_found keys count = record {
  long = length-replicate count None;
  at = λ x m h. absurd (none_at count x m h);
  some = λ x m l. absurd (omega arith);
}

set_long : {T : Type 0} (xs : List T) (k : ℕ) (x : T) → length (slice_set xs k x) ≡ length xs
set_long [] k x = refl
set_long (y ∷ xs) zero x = refl
set_long (y ∷ xs) (suc k) x = ap suc (set_long xs k x)

pub set_beyond : {T : Type 0} (xs : List T) (k : ℕ) (x : T) → (k < length xs → ⊥) → slice_set xs k x ≡ xs
set_beyond [] k x h = refl
set_beyond (y ∷ xs) zero x h = absurd (h (omega arith))
set_beyond {T} (y ∷ xs) (suc k) x h = ap (λ (zs : List T). y ∷ zs) (set_beyond xs k x (λ l. h (omega arith)))

same_place : (k x : ℕ) → (k ≡ x) ⊎ (k ≢ x)
same_place zero zero = inl refl
same_place zero (suc x) = inr (λ e. let f : 0 ≡ suc x = e in omega arith)
same_place (suc k) zero = inr (λ e. let f : suc k ≡ 0 = e in omega arith)
same_place (suc k) (suc x) = elim (same_place k x) [ inl e ↦ inl (ap suc e) | inr n ↦ inr (λ e. n (let f : suc k ≡ suc x = e in omega arith)) ]

found_past : (keys : List (Option ℕ)) (count i : ℕ) (old new : List (Option ℕ)) → FoundSoFar keys count i old → slice_get keys i ≡ Some None → new ≡ old
    → FoundSoFar keys count (i + 1) new
found_past keys count i old new h at e = record {
  long = ap (λ (zs : List (Option ℕ)). length zs) e ∙ h.long;
  at = λ x m there. h.at x m (ap (λ (zs : List (Option ℕ)). slice_get zs x) (sym e) ∙ there);
  some = λ x m l there low. elim (same_place m i) [
    | inl same ↦ absurd (let f : Some None ≡ Some (Some x) = sym at ∙ ap (λ (z : ℕ). slice_get keys z) (sym same) ∙ there in cc)
    | inr other ↦
        let less : m < i = omega (arith, l, other) in
        let r = h.some x m less there low in
        (r.0, ap (λ (zs : List (Option ℕ)). slice_get zs x) e ∙ r.1)
  ];
}

found_put : (keys : List (Option ℕ)) (count i z : ℕ) (old new : List (Option ℕ)) → FoundSoFar keys count i old → slice_get keys i ≡ Some (Some z)
    → new ≡ slice_set old z (Some i) → FoundSoFar keys count (i + 1) new
found_put keys count i z old new h at e = record {
  long = ap (λ (zs : List (Option ℕ)). length zs) e ∙ set_long old z (Some i) ∙ h.long;
  at = λ x m there. elim (same_place z x) [
    | inl same ↦
        let here : slice_get (slice_set old z (Some i)) z ≡ Some (Some m) = ap (λ (y : ℕ). slice_get (slice_set old z (Some i)) y) same ∙ ap (λ (zs : List (Option ℕ)). slice_get zs x) (sym e) ∙ there in
        let is : i ≡ m = (let f : Some i ≡ Some m = set_is old z (Some i) (Some m) here in cc) in
        subst (λ (y : ℕ). slice_get keys y ≡ Some (Some x)) is (at ∙ ap (λ (y : ℕ). Some (Some y)) same)
    | inr other ↦ h.at x m (sym (set_other old z x (Some i) other) ∙ ap (λ (zs : List (Option ℕ)). slice_get zs x) (sym e) ∙ there)
  ];
  some = λ x m l there low. elim (same_place z x) [
    | inl same ↦
        let c = h.long in
        let inside : z < length old = omega (arith, c, low, same) in
        let old_one = item_at old z inside in
        (i, ap (λ (zs : List (Option ℕ)). slice_get zs x) e ∙ ap (λ (y : ℕ). slice_get (slice_set old z (Some i)) y) (sym same) ∙ set_same old z (Some i) old_one.0 old_one.1)
    | inr other ↦
        let apart : m ≢ i = λ f. other (let g : Some (Some z) ≡ Some (Some x) = sym at ∙ ap (λ (y : ℕ). slice_get keys y) (sym f) ∙ there in cc) in
        let less : m < i = omega (arith, l, apart) in
        let r = h.some x m less there low in
        (r.0, ap (λ (zs : List (Option ℕ)). slice_get zs x) e ∙ set_other old z x (Some i) other ∙ r.1)
  ];
}
  where
    set_is : (xs : List (Option ℕ)) (k : ℕ) (x y : Option ℕ) → slice_get (slice_set xs k x) k ≡ Some y → x ≡ y
    set_is [] k x y h = absurd (let e : None ≡ Some y = h in cc)
    set_is (z ∷ xs) zero x y h = let e : Some x ≡ Some y = h in cc
    set_is (z ∷ xs) (suc k) x y h = set_is xs k x y h

pub found_on : (keys : List (Option ℕ)) (count i : ℕ) (key : Option ℕ) (old new : List (Option ℕ)) → FoundSoFar keys count i old → slice_get keys i ≡ Some key
    → IsPut old new key i → FoundSoFar keys count (i + 1) new
found_on keys count i None old new h at e = found_past keys count i old new h at e
found_on keys count i (Some z) old new h at e = found_put keys count i z old new h at e

pub found_all : (keys : List (Option ℕ)) (count i : ℕ) (places : List (Option ℕ)) → FoundSoFar keys count i places → i ≡ length keys → AreFound keys places
found_all keys count i places h e = record {
  at = h.at;
  some = λ x m there low.
      let c = h.long in
      let l = slice_get_within keys m (Some x) there in
      h.some x m (omega (arith, l, e)) there (omega (arith, c, low));
}

-- ---- couples of keys

-- m is the place of no key but x
on_keys : (places : List (Option ℕ)) (m x : ℕ) → get_or places x None ≡ Some m → ((z : ℕ) → get_or places z None ≡ Some m → z ≡ x)
    → (xs : List (Option ℕ)) (i k : ℕ) → IsOnly (Some x) k xs → IsFirst (sure (i + k) m) (couples_from places i xs)
on_keys places m x at one [] i k only = absurd (let e : None ≡ Some (Some x) = only.0 in cc)
on_keys places m x at one (key ∷ keys) i zero only =
    let same : key ≡ Some x = (let e : Some key ≡ Some (Some x) = only.0 in cc) in
    let z : i ≡ i + 0 = omega arith in
    let here : couple_at places i key ≡ sure i m ∷ [] = ap (couple_at places i) same ∙ ap (couple_to i) at in
    subst (λ (j : ℕ). IsFirst (sure j m) (couples_from places i (key ∷ keys))) z
    (subst (λ (cs : List Couple). IsFirst (sure i m) (cs ++ couples_from places (i + 1) keys)) (sym here) (inl refl))
on_keys places m x at one (key ∷ keys) i (suc k) only =
    let other : key ≢ Some x = λ e. (let f : 0 ≡ suc k = only.1 0 (ap Some e) in omega arith) in
    let z : i + 1 + k ≡ i + suc k = omega arith in
    let left : i ≢ i + suc k = λ e. (let f : i ≡ i + suc k = e in omega arith) in
    let rest : IsOnly (Some x) k keys = (only.0, (λ j there. let f : suc j ≡ suc k = only.1 (suc j) there in omega arith)) in
    past_key key other left (subst (λ (j : ℕ). IsFirst (sure j m) (couples_from places (i + 1) keys)) z (on_keys places m x at one keys (i + 1) k rest))
  where
    past_place : (i k : ℕ) (place : Option ℕ) (cs : List Couple) → (place ≡ Some m → ⊥) → i ≢ k → IsFirst (sure k m) cs → IsFirst (sure k m) (couple_to i place ++ cs)
    past_place i k None cs not left h = h
    past_place i k (Some j) cs not left h = inr (left, (λ e. not (ap Some e)), h)

    past_key : (key : Option ℕ) → key ≢ Some x → i ≢ i + suc k → IsFirst (sure (i + suc k) m) (couples_from places (i + 1) keys)
        → IsFirst (sure (i + suc k) m) (couple_at places i key ++ couples_from places (i + 1) keys)
    past_key None other left h = h
    past_key (Some z) other left h = past_place i (i + suc k) (get_or places z None) (couples_from places (i + 1) keys) (λ e. other (ap Some (one z e))) left h

place_get : (places : List (Option ℕ)) (z m : ℕ) → get_or places z None ≡ Some m → slice_get places z ≡ Some (Some m)
place_get [] z m h = absurd (let e : None ≡ Some m = h in cc)
place_get (p ∷ places) zero m h = ap Some h
place_get (p ∷ places) (suc z) m h = place_get places z m h

pub keys_first : (count : ℕ) (lefts rights places : List (Option ℕ)) → length places ≡ count → AreFound rights places → AreKeysFirst count lefts rights (couples_from places 0 lefts)
keys_first count lefts rights places long found x k m low left right =
    let r = found.some x m right.0 (omega (arith, long, low)) in
    let is : r.0 ≡ m = right.1 r.0 (found.at x r.0 r.1) in
    let there : get_or places x None ≡ Some m = get_or_from_slice_get places x (Some r.0) None r.1 ∙ ap Some is in
    let z : 0 + k ≡ k = omega arith in
    subst (λ (j : ℕ). IsFirst (sure j m) (couples_from places 0 lefts)) z
    (on_keys places m x there (λ y e. let f : Some (Some y) ≡ Some (Some x) = sym (found.at y m (place_get places y m e)) ∙ right.0 in cc) lefts 0 k left)

-- ---- pairings

order_on : (ms : List ℕ) (j k m : ℕ) → AreApart ms → slice_get ms k ≡ Some m → IsFirst (sure (j + k) m) (in_order j ms)
order_on [] j k m a at = absurd (let e : None ≡ Some m = at in cc)
order_on (x ∷ ms) j zero m a at =
    let same : m ≡ x = (let e : Some x ≡ Some m = at in cc) in
    let z : j + 0 ≡ j = omega arith in
    inl (ap (λ (i : ℕ). sure i m) z ∙ ap (sure j) same)
order_on (x ∷ ms) j (suc k) m a at =
    let other : x ≢ m = λ e. a.0 (subst (λ (t : ℕ). IsListed t ms) (sym e) (listed ms k m at)) in
    let z : j + 1 + k ≡ j + suc k = omega arith in
    let left : j ≢ j + suc k = λ e. (let f : j ≡ j + suc k = e in omega arith) in
    inr (left, other, subst (λ (i : ℕ). IsFirst (sure i m) (in_order (j + 1) ms)) z (order_on ms (j + 1) k m a.1 at))

pub order_first : (ms : List ℕ) (k m : ℕ) → AreApart ms → slice_get ms k ≡ Some m → IsFirst (sure k m) (in_order 0 ms)
order_first ms k m a at =
    let z : 0 + k ≡ k = omega arith in
    subst (λ (i : ℕ). IsFirst (sure i m) (in_order 0 ms)) z (order_on ms 0 k m a at)

pub entry_is : (xs : List ℕ) (i x : ℕ) → slice_get xs i ≡ Some x → slice_index xs i ≡ x
entry_is xs i x h = get_or_from_slice_get xs i x 0 h

-- a one-to-one list has no repeats
pub one_apart : (xs : List ℕ) (m n : ℕ) → IsOneToOne xs m n → AreApart xs
one_apart xs m n one = at_apart xs (λ i j a h g.
    let c = one.count in
    let low = slice_get_within xs i a h in
    let also = slice_get_within xs j a g in
    index_one xs m n i j one (omega arith) (omega arith) (entry_is xs i a h ∙ sym (entry_is xs j a g)))

-- ---- keys of a list, one after another

-- the keys of those before the rest
pub record KeysSoFar (passes : List ℕ → Bool) (start table all rest : List (List ℕ)) (keys : List (Option ℕ)) : Type 0 where
  pub apart : AreApart table
  pub grown : Extends start table
  pub done : List (List ℕ)
  pub split : all ≡ done ++ rest
  pub are : AreKeys passes table done keys

pub keys_start : (passes : List ℕ → Bool) (table all : List (List ℕ)) → AreApart table → KeysSoFar passes table table all all []
keys_start passes table all apart = record { apart = apart; grown = extends_same table; done = []; split = refl; are = tt }

pub keys_on : (passes : List ℕ → Bool) (start table all : List (List ℕ)) (t : List ℕ) (more : List (List ℕ)) (keys : List (Option ℕ)) (new : List (List ℕ)) (key : Option ℕ)
    → KeysSoFar passes start table all (t ∷ more) keys → AreApart new → Extends table new → IsKey passes new t key
    → KeysSoFar passes start new all more (keys ++ key ∷ [])
keys_on passes start table all t more keys new key h apart grown is = record {
  apart = apart;
  grown = extends_on start table new h.grown grown;
  done = h.done ++ t ∷ [];
  split = h.split ∙ sym (append_assoc h.done (t ∷ []) more);
  are = keys_more passes new h.done keys t key (keys_stay passes table new h.done keys grown h.are) is;
}

pub keys_all : (passes : List ℕ → Bool) (start table all : List (List ℕ)) (keys : List (Option ℕ)) → KeysSoFar passes start table all [] keys → AreKeys passes table all keys
keys_all passes start table all keys h = subst (λ (ts : List (List ℕ)). AreKeys passes table ts keys) (sym (h.split ∙ append-nil h.done)) h.are
