-- The first place at which a test holds.
use Rattle.std.proofs.Common.{◌≡◌, inl, inr, ℕ, zero, suc, ◌+◌, ◌<◌, Bool, true, false, List, [], ◌∷◌, slice_get, Option, Some, None, refl, sym, ap, ◌∙◌, arith, true≢false}
use Rattle.std.proofs.lemmas.Bool.{cases_Bool, or_left, or_right, or_cases}
use Rattle.std.specs.List.{list_any}
use Rattle.plain_netlist.specs.Lists.{IsListed}
use Rattle.net_model.specs.Tests.{first_from}

-- m is the first place of P, counted from k, or there is none
abbrev pub FindsAt : ℕ → (ℕ → Type 0) → Option ℕ → Type 0
FindsAt k P None = (i : ℕ) → P i → ⊥
FindsAt k P (Some m) = (i : ℕ) × (m ≡ k + i) × P i × ((j : ℕ) → j < i → P j → ⊥)

later : (k : ℕ) (P : ℕ → Type 0) (o : Option ℕ) → (P 0 → ⊥) → FindsAt (k + 1) (λ i. P (suc i)) o → FindsAt k P o
later k P None none h = λ i p. go i p
  where
    go : (i : ℕ) → P i → ⊥
    go zero p = none p
    go (suc i) p = h i p
later k P (Some m) none h = (suc h.0, (let e = h.1 in omega arith), h.2, λ j l p. go j l p)
  where
    go : (j : ℕ) → j < suc h.0 → P j → ⊥
    go zero l p = none p
    go (suc j) l p = h.3 j (omega arith) p

pub finds_from : {A : Type 0} (p : A → Bool) (xs : List A) (k : ℕ) (P : ℕ → Type 0)
    → ((i : ℕ) (x : A) → slice_get xs i ≡ Some x → p x ≡ true → P i)
    → ((i : ℕ) → P i → (x : A) × (slice_get xs i ≡ Some x) × (p x ≡ true))
    → FindsAt k P (first_from k p xs)
finds_from p [] k P gives has = λ i h. let r = has i h in let z : ⊥ = cc in z
finds_from {A = A} p (x ∷ xs) k P gives has = elim (cases_Bool (p x)) [
  | inl t ↦ rw t (0, (omega arith), gives 0 x refl t, λ j l h. absurd (omega arith))
  | inr f ↦ rw f (later k P (first_from (k + 1) p xs) (none f) (finds_from p xs (k + 1) (λ i. P (suc i)) (λ i y is t. gives (suc i) y is t) (λ i h. has (suc i) h)))
]
  where
    none : p x ≡ false → P 0 → ⊥
    none f h =
        let r = has 0 h in
        let same : x ≡ r.0 = cc in
        true≢false (sym r.2 ∙ ap p (sym same) ∙ f)

pub any_listed : {A : Type 0} (p : A → Bool) (xs : List A) (x : A) → IsListed x xs → p x ≡ true → list_any p xs ≡ true
any_listed p [] x h t = absurd h
any_listed p (y ∷ xs) x (inl e) t = or_left (p y) (list_any p xs) (ap p (sym e) ∙ t)
any_listed p (y ∷ xs) x (inr h) t = or_right (p y) (list_any p xs) (any_listed p xs x h t)

pub any_has : {A : Type 0} (p : A → Bool) (xs : List A) → list_any p xs ≡ true → (x : A) × IsListed x xs × (p x ≡ true)
any_has p [] t = let z : ⊥ = cc in absurd z
any_has p (y ∷ xs) t = elim (or_cases (p y) (list_any p xs) t) [
  | inl h ↦ (y, inl refl, h)
  | inr h ↦ let r = any_has p xs h in (r.0, inr r.1, r.2)
]
