-- Numbers as first seen are numbered in the order of their appearance.
use Rattle.std.proofs.Common.{◌≡◌, ◌⊎◌, inl, inr, ℕ, zero, suc, ◌+◌, true, false, List, [], ◌∷◌, ◌++◌, length, map, Some, slice_get, refl, sym, ◌∙◌, ap, subst, arith, true≢false, length-append}
use Rattle.base_laws.proofs.Items.{push_cases, get_last, push_old}
use Rattle.std.proofs.lemmas.Bool.{cases_Bool}
use Rattle.std.proofs.lemmas.Option.{slice_get_within}
use Rattle.plain_netlist.specs.Lists.{IsListed}
use Rattle.plain_netlist.specs.Normal.{AreNumbered}
use Rattle.plain_netlist.proofs.Members.{listed, position}
use Rattle.net_align.specs.Sights.{has_number, with_first, firsts_from, place_in}
use Rattle.net_align.proofs.Seeing.{has_listed, listed_has, place_there}

-- no number at two places
abbrev pub AreOnce : List ℕ → Type 0
AreOnce xs = (i j n : ℕ) → slice_get xs i ≡ Some n → slice_get xs j ≡ Some n → i ≡ j

once_more : (xs : List ℕ) (x : ℕ) → AreOnce xs → has_number xs x ≡ false → AreOnce (xs ++ x ∷ [])
once_more xs x once fresh i j n a b = elim (push_cases xs x n i a) [
  | inl p ↦ elim (push_cases xs x n j b) [
    | inl q ↦ once i j n p q
    | inr q ↦ absurd (true≢false (sym (has_listed xs x (subst (λ (y : ℕ). IsListed y xs) (sym q.1) (listed xs i n p))) ∙ fresh))
  ]
  | inr p ↦ elim (push_cases xs x n j b) [
    | inl q ↦ absurd (true≢false (sym (has_listed xs x (subst (λ (y : ℕ). IsListed y xs) (sym p.1) (listed xs j n q))) ∙ fresh))
    | inr q ↦ p.0 ∙ sym q.0
  ]
]

pub firsts_once : (xs seen : List ℕ) → AreOnce seen → AreOnce (firsts_from seen xs)
firsts_once [] seen once = once
firsts_once (x ∷ xs) seen once = elim (cases_Bool (has_number seen x)) [
  | inl t ↦ rw t (firsts_once xs seen once)
  | inr f ↦ rw f (firsts_once xs (seen ++ x ∷ []) (once_more seen x once f))
]

pub firsts_stay : (xs seen : List ℕ) (k n : ℕ) → slice_get seen k ≡ Some n → slice_get (firsts_from seen xs) k ≡ Some n
firsts_stay [] seen k n e = e
firsts_stay (x ∷ xs) seen k n e = elim (cases_Bool (has_number seen x)) [
  | inl t ↦ rw t (firsts_stay xs seen k n e)
  | inr f ↦ rw f (firsts_stay xs (seen ++ x ∷ []) k n (push_old seen x n k e))
]

-- a number's place is where it stands
pub place_is : (xs : List ℕ) (k n : ℕ) → AreOnce xs → slice_get xs k ≡ Some n → place_in xs n ≡ k
place_is xs k n once e = once (place_in xs n) k n (place_there xs n (listed xs k n e)) e

pub numbered_firsts : (xs seen : List ℕ) → AreOnce seen → AreNumbered (length (firsts_from seen xs)) (length seen) (map (place_in (firsts_from seen xs)) xs)
numbered_firsts [] seen once = refl
numbered_firsts (x ∷ xs) seen once = elim (cases_Bool (has_number seen x)) [
  | inl t ↦
      let p = position seen x (listed_has seen x t) in
      let low = slice_get_within seen p.0 x p.1 in
      let at : place_in (firsts_from seen xs) x ≡ p.0 = place_is (firsts_from seen xs) p.0 x (firsts_once xs seen once) (firsts_stay xs seen p.0 x p.1) in
      let e : with_first seen x ≡ seen = rw t refl in
      subst (λ (s : List ℕ). AreNumbered (length (firsts_from s xs)) (length seen) (place_in (firsts_from s xs) x ∷ map (place_in (firsts_from s xs)) xs)) (sym e)
      (inl ((omega (arith, at, low)), numbered_firsts xs seen once))
  | inr f ↦
      let more = seen ++ x ∷ [] in
      let once_now = once_more seen x once f in
      let at : place_in (firsts_from more xs) x ≡ length seen = place_is (firsts_from more xs) (length seen) x (firsts_once xs more once_now) (firsts_stay xs more (length seen) x (get_last seen x)) in
      let long : length more ≡ suc (length seen) = let l = length-append seen (x ∷ []) in omega (arith, l) in
      let e : with_first seen x ≡ more = rw f refl in
      subst (λ (s : List ℕ). AreNumbered (length (firsts_from s xs)) (length seen) (place_in (firsts_from s xs) x ∷ map (place_in (firsts_from s xs)) xs)) (sym e)
      (inr (at, subst (λ (n : ℕ). AreNumbered (length (firsts_from more xs)) n (map (place_in (firsts_from more xs)) xs)) long (numbered_firsts xs more once_now)))
]

-- numbers of a list without repeats that come first stand at their places
pub first_places : (own seen rest : List ℕ) (i n : ℕ) → ((m : ℕ) → IsListed m own → has_number seen m ≡ false) → AreOnce own → AreOnce seen → slice_get own i ≡ Some n
    → slice_get (firsts_from seen (own ++ rest)) (length seen + i) ≡ Some n
first_places [] seen rest i n fresh once seen_once e = absurd (let z : ⊥ = cc in z)
first_places (x ∷ own) seen rest zero n fresh once seen_once e =
    let f = fresh x (inl refl) in
    let same : x ≡ n = cc in
    let at : slice_get (seen ++ x ∷ []) (length seen) ≡ Some n = get_last seen x ∙ ap Some same in
    let z : length seen ≡ length seen + 0 = omega arith in
    let now : with_first seen x ≡ seen ++ x ∷ [] = rw f refl in
    subst (λ (s : List ℕ). slice_get (firsts_from s (own ++ rest)) (length seen + 0) ≡ Some n) (sym now)
    (subst (λ (k : ℕ). slice_get (firsts_from (seen ++ x ∷ []) (own ++ rest)) k ≡ Some n) z (firsts_stay (own ++ rest) (seen ++ x ∷ []) (length seen) n at))
first_places (x ∷ own) seen rest (suc i) n fresh once seen_once e =
    let f = fresh x (inl refl) in
    let long : length (seen ++ x ∷ []) + i ≡ length seen + suc i = let l = length-append seen (x ∷ []) in omega (arith, l) in
    let now : with_first seen x ≡ seen ++ x ∷ [] = rw f refl in
    subst (λ (s : List ℕ). slice_get (firsts_from s (own ++ rest)) (length seen + suc i) ≡ Some n) (sym now)
    (subst (λ (k : ℕ). slice_get (firsts_from (seen ++ x ∷ []) (own ++ rest)) k ≡ Some n) long
    (first_places own (seen ++ x ∷ []) rest i n
    (λ m h. fresh_more m h (cases_Bool (has_number (seen ++ x ∷ []) m)))
    (λ j k m a b. let s = once (suc j) (suc k) m a b in omega (arith, s))
    (once_more seen x seen_once f) e))
  where
    fresh_more : (m : ℕ) → IsListed m own → (has_number (seen ++ x ∷ []) m ≡ true) ⊎ (has_number (seen ++ x ∷ []) m ≡ false) → has_number (seen ++ x ∷ []) m ≡ false
    fresh_more m h (inr no_) = no_
    fresh_more m h (inl t) =
        let p = position (seen ++ x ∷ []) m (listed_has (seen ++ x ∷ []) m t) in
        elim (push_cases seen x m p.0 p.1) [
          | inl q ↦ absurd (true≢false (sym (has_listed seen m (listed seen p.0 m q)) ∙ fresh m (inr h)))
          | inr q ↦
              let w = position own m h in
              let s = once 0 (suc w.0) m (ap Some q.1) w.1 in
              absurd (omega (arith, s))
        ]
