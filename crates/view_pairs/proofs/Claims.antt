-- One more couple among partners: the right nodes are still each one's partner or free.
use Rattle.std.proofs.Common.{replicate, ◌≡◌, ◌⊎◌, inl, inr, ◌∙◌, ℕ, zero, suc, ◌+◌, ◌-◌, ◌≤◌, Bool, true, false, List, [], ◌∷◌, ◌++◌, Option, Some, None, length, take, drop, get_or, slice_get, slice_set, refl, sym, ap, subst, arith}
use Rattle.std.proofs.lemmas.Bool.{and_parts}
use Rattle.std.specs.List.{list_all, range_with_len}
use Rattle.std.proofs.lemmas.List.{length-replicate}
use Rattle.std.specs.List.Sorted.{IsPermutation}
use Rattle.std.proofs.lemmas.List.Sorted.{IsPermutation-refl, IsPermutation-trans, IsPermutation-cons, IsPermutation-middle, IsPermutation-append_left, IsPermutation-append_right}
use Rattle.view_pairs.specs.Partners.{chosen, couple, free_from, AreClaimed, HaveAll, IsClaimed}
use Rattle.view_pairs.specs.declared.partners.Couple.{Couple}
use Rattle.view_pairs.specs.declared.partners.Partner.{Partner}

-- a new partner stands among the chosen ones
pub more_chosen : (xs : List (Option Partner)) (k : ℕ) (p : Partner) → slice_get xs k ≡ Some None
    → IsPermutation (p.number ∷ chosen xs) (chosen (slice_set xs k (Some p)))
more_chosen [] k p h = absurd (let e : None ≡ Some None = h in cc)
more_chosen (None ∷ xs) zero p h = IsPermutation-refl (p.number ∷ chosen xs)
more_chosen (Some q ∷ xs) zero p h = absurd (let e : Some (Some q) ≡ Some None = h in cc)
more_chosen (None ∷ xs) (suc k) p h = more_chosen xs k p h
more_chosen (Some q ∷ xs) (suc k) p h =
    IsPermutation-trans (p.number ∷ q.number ∷ chosen xs) (q.number ∷ p.number ∷ chosen xs) (q.number ∷ chosen (slice_set xs k (Some p)))
    (IsPermutation-middle (p.number ∷ []) q.number (chosen xs))
    (IsPermutation-cons q.number (p.number ∷ chosen xs) (chosen (slice_set xs k (Some p))) (more_chosen xs k p h))

-- a place that is taken was free
pub less_free : (marks : List Bool) (a k : ℕ) → slice_get marks k ≡ Some false
    → IsPermutation (free_from a marks) ((a + k) ∷ free_from a (slice_set marks k true))
less_free [] a k h = absurd (let e : None ≡ Some false = h in cc)
less_free (false ∷ marks) a zero h =
    let e : a ≡ a + 0 = omega arith in
    subst (λ (n : ℕ). IsPermutation (a ∷ free_from (a + 1) marks) (n ∷ free_from (a + 1) marks)) e (IsPermutation-refl (a ∷ free_from (a + 1) marks))
less_free (true ∷ marks) a zero h = absurd (let e : Some true ≡ Some false = h in cc)
less_free (true ∷ marks) a (suc k) h =
    let e : a + 1 + k ≡ a + suc k = omega arith in
    subst (λ (n : ℕ). IsPermutation (free_from (a + 1) marks) (n ∷ free_from (a + 1) (slice_set marks k true))) e (less_free marks (a + 1) k h)
less_free (false ∷ marks) a (suc k) h =
    let e : a + 1 + k ≡ a + suc k = omega arith in
    let rest = free_from (a + 1) (slice_set marks k true) in
    IsPermutation-trans (a ∷ free_from (a + 1) marks) (a ∷ (a + suc k) ∷ rest) ((a + suc k) ∷ a ∷ rest)
    (IsPermutation-cons a (free_from (a + 1) marks) ((a + suc k) ∷ rest)
    (subst (λ (n : ℕ). IsPermutation (free_from (a + 1) marks) (n ∷ rest)) e (less_free marks (a + 1) k h)))
    (IsPermutation-middle (a ∷ []) (a + suc k) rest)

set_length : {T : Type 0} (xs : List T) (k : ℕ) (x : T) → length (slice_set xs k x) ≡ length xs
set_length [] k x = refl
set_length (y ∷ xs) zero x = refl
set_length (y ∷ xs) (suc k) x = ap suc (set_length xs k x)

-- a couple whose nodes have no partners yet
pub claim_one : (xs : List (Option Partner)) (marks : List Bool) (k : ℕ) (p : Partner) → slice_get xs k ≡ Some None
    → slice_get marks p.number ≡ Some false → IsClaimed xs marks → IsClaimed (slice_set xs k (Some p)) (slice_set marks p.number true)
claim_one xs marks k p lone free h =
    let rest = free_from 0 (slice_set marks p.number true) in
    let n : 0 + p.number ≡ p.number = omega arith in
    let taken : IsPermutation (free_from 0 marks) (p.number ∷ rest) =
    subst (λ (m : ℕ). IsPermutation (free_from 0 marks) (m ∷ rest)) n (less_free marks 0 p.number free) in
    let now = chosen (slice_set xs k (Some p)) in
    let one : IsPermutation (chosen xs ++ free_from 0 marks) (chosen xs ++ p.number ∷ rest) =
    IsPermutation-append_right (chosen xs) (free_from 0 marks) (p.number ∷ rest) taken in
    let two : IsPermutation (chosen xs ++ p.number ∷ rest) (p.number ∷ (chosen xs ++ rest)) =
    IsPermutation-middle (chosen xs) p.number rest in
    let three : IsPermutation ((p.number ∷ chosen xs) ++ rest) (now ++ rest) =
    IsPermutation-append_left rest (p.number ∷ chosen xs) now (more_chosen xs k p lone) in
    let all = range_with_len 0 (length marks) in
    let four = IsPermutation-trans all (chosen xs ++ free_from 0 marks) (chosen xs ++ p.number ∷ rest) h one in
    let five = IsPermutation-trans all (chosen xs ++ p.number ∷ rest) (p.number ∷ (chosen xs ++ rest)) four two in
    let six = IsPermutation-trans all ((p.number ∷ chosen xs) ++ rest) (now ++ rest) five three in
    subst (λ (m : ℕ). IsPermutation (range_with_len 0 m) (now ++ rest)) (sym (set_length marks p.number true)) six

-- at the start all right nodes are free
pub all_free : (a n : ℕ) → free_from a (replicate n false) ≡ range_with_len a n
all_free a zero = refl
all_free a (suc n) = ap (λ (xs : List ℕ). a ∷ xs) (all_free (a + 1) n)

pub none_chosen : (n : ℕ) → chosen (replicate n None) ≡ []
none_chosen zero = refl
none_chosen (suc n) = none_chosen n

-- what stands in a list with one place changed
pub set_from : {T : Type 0} (xs : List T) (i k : ℕ) (x y : T) → slice_get (slice_set xs i x) k ≡ Some y
    → ((k ≡ i) × (x ≡ y)) ⊎ (slice_get xs k ≡ Some y)
set_from [] i k x y h = inr h
set_from (z ∷ zs) zero zero x y h = inl (refl, (let e : Some x ≡ Some y = h in cc))
set_from (z ∷ zs) zero (suc k) x y h = inr h
set_from (z ∷ zs) (suc i) zero x y h = inr h
set_from (z ∷ zs) (suc i) (suc k) x y h =
    elim (set_from zs i k x y h) [ inl w ↦ inl (ap suc w.0, w.1) | inr w ↦ inr w ]

-- a couple's node has its partner
pub have_one : (all : List Couple) (xs : List (Option Partner)) (c : Couple) → HaveAll all xs
    → ((is : Couple → Bool) → list_all is all ≡ true → is c ≡ true) → HaveAll all (slice_set xs c.left (Some c.right))
have_one all xs c have one is h k p at =
    elim (set_from xs c.left k (Some c.right) (Some p) at) [
      | inl w ↦
          let q : c.right ≡ p = (let e = w.1 in cc) in
          subst (λ (r : Partner). is (couple k r) ≡ true) q (subst (λ (j : ℕ). is (couple j c.right) ≡ true) (sym w.0) (one is h))
      | inr w ↦ have is h k p w
    ]

pub none_at : (n k : ℕ) (p : Partner) → slice_get (replicate n None) k ≡ Some (Some p) → ⊥
none_at zero k p h = let e : None ≡ Some (Some p) = h in cc
none_at (suc n) zero p h = let e : Some None ≡ Some (Some p) = h in cc
none_at (suc n) (suc k) p h = none_at n k p h

-- none is a partner yet
pub claims_start : (n m : ℕ) (all : List Couple) → AreClaimed n m all all (replicate n None) (replicate m false)
claims_start n m all =
    let e : free_from 0 (replicate m false) ≡ range_with_len 0 m = all_free 0 m in
    let c : chosen (replicate n None) ≡ [] = none_chosen n in
    let l : length (replicate m false) ≡ m = length-replicate m false in
    record {
      count = length-replicate n None;
      long = l;
      claimed = subst (λ (z : ℕ). IsPermutation (range_with_len 0 z) (chosen (replicate n None) ++ free_from 0 (replicate m false))) (sym l)
          (subst (λ (zs : List ℕ). IsPermutation (range_with_len 0 m) (zs ++ free_from 0 (replicate m false))) (sym c)
          (subst (λ (zs : List ℕ). IsPermutation (range_with_len 0 m) zs) (sym e) (IsPermutation-refl (range_with_len 0 m))));
      same = λ is h. h;
      have = λ is h k p at. absurd (none_at n k p at);
    }

first_true : (is : Couple → Bool) (c : Couple) (cs : List Couple) → list_all is (c ∷ cs) ≡ true → (is c ≡ true) × (list_all is cs ≡ true)
first_true is c cs h = and_parts (is c) (list_all is cs) h

-- one more couple is looked at
pub claims_on : (n m : ℕ) (all more : List Couple) (c : Couple) (xs ys : List (Option Partner)) (marks others : List Bool)
    → AreClaimed n m all (c ∷ more) xs marks → IsClaimed ys others → length ys ≡ length xs → length others ≡ length marks
    → (ys ≡ xs) ⊎ (ys ≡ slice_set xs c.left (Some c.right)) → AreClaimed n m all more ys others
claims_on n m all more c xs ys marks others old claimed count long new = record {
  count = count ∙ old.count;
  long = long ∙ old.long;
  claimed = claimed;
  same = λ is h. (first_true is c more (old.same is h)).1;
  have = elim new [
    | inl e ↦ subst (HaveAll all) (sym e) old.have
    | inr e ↦ subst (HaveAll all) (sym e) (have_one all xs c old.have (λ is h. (first_true is c more (old.same is h)).0))
  ];
}

take_all : (n : ℕ) (ys : List Couple) → n ≡ length ys → take n ys ≡ ys
take_all zero [] h = refl
take_all (suc n) [] h = absurd (omega arith)
take_all zero (y ∷ ys) h = absurd (omega arith)
take_all (suc n) (y ∷ ys) h = ap (λ (zs : List Couple). y ∷ zs) (take_all n ys (omega arith))

-- a list's first and the rest
pub first_and_rest : (xs : List Couple) (d : Couple) → 1 ≤ length xs → xs ≡ get_or xs 0 d ∷ take (length xs - 1) (drop 1 xs)
first_and_rest [] d h = absurd (omega arith)
first_and_rest (y ∷ ys) d h = ap (λ (zs : List Couple). y ∷ zs) (sym (take_all (length (y ∷ ys) - 1) ys (omega arith)))
