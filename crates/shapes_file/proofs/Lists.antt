-- Entries of lists by their numbers.
use Rattle.std.proofs.Common.{◌≡◌, inl, inr, ℕ, zero, suc, ◌<◌, cond, eqb, List, [], ◌∷◌, slice_get, Some, refl, sym, ap, subst, ◌∙◌, arith}
use Rattle.std.specs.Prelude.{Contains}
use Rattle.std.specs.List.{AllByRecursion}
use Rattle.std.specs.List.Sorted.{IsStrictlyIncreasing}
use Rattle.std.proofs.lemmas.Bool.{cases_lt}
use Rattle.std.proofs.lemmas.Bool.Decides.{eqb_tells}
use Rattle.std.proofs.lemmas.List.Kept.{AllPairs-from_increasing}
use Rattle.std.proofs.lemmas.Option.{slice_get_within, slice_get-get_or, get_or_from_slice_get}
use Rattle.flat_layout.specs.Layout.{Some_of}

-- ---- which entry has what some entry has

pub some_at : {A : Type 0} (P : A → Type 0) (xs : List A) → Some_of P xs → (k : ℕ) × (x : A) × (slice_get xs k ≡ Some x) × P x
some_at P [] h = absurd h
some_at P (x ∷ xs) (inl h) = (0, x, refl, h)
some_at P (x ∷ xs) (inr h) = let r = some_at P xs h in (suc r.0, r.1, r.2, r.3)

pub at_some : {A : Type 0} (P : A → Type 0) (xs : List A) (k : ℕ) (x : A) → slice_get xs k ≡ Some x → P x → Some_of P xs
at_some P [] k x e h = absurd cc
at_some P (y ∷ xs) zero x e h = let same : y ≡ x = cc in inl (subst P (sym same) h)
at_some P (y ∷ xs) (suc k) x e h = inr (at_some P xs k x e h)

-- what holds at each number holds of all
pub each_all : {A : Type 0} (P : A → Type 0) (xs : List A) → ((k : ℕ) (x : A) → slice_get xs k ≡ Some x → P x) → AllByRecursion P xs
each_all P [] h = tt
each_all P (x ∷ xs) h = (h 0 x refl, each_all P xs (λ k y e. h (suc k) y e))

-- ---- numbers in a list of numbers

pub contains : (xs : List ℕ) (i k : ℕ) → slice_get xs i ≡ Some k → Contains xs k
contains xs i k e = (i, slice_get_within xs i k e, get_or_from_slice_get xs i k k e)

pub contained : (xs : List ℕ) (k : ℕ) → Contains xs k → (i : ℕ) × (slice_get xs i ≡ Some k)
contained xs k h = (h.0, slice_get-get_or xs h.0 k h.1 ∙ ap (λ n. Some n) h.2)

-- where a number stands first
abbrev pub position : List ℕ → ℕ → ℕ
position [] k = 0
position (x ∷ xs) k = cond (eqb x k) 0 (suc (position xs k))

pub at_position : (xs : List ℕ) (k i : ℕ) → slice_get xs i ≡ Some k → slice_get xs (position xs k) ≡ Some k
at_position [] k i e = absurd cc
at_position (x ∷ xs) k i e = elim (eqb_tells x k) [
  | inl hit ↦ subst (λ b. slice_get (x ∷ xs) (cond b 0 (suc (position xs k))) ≡ Some k) (sym hit.0) (ap (λ n. Some n) hit.1)
  | inr miss ↦ subst (λ b. slice_get (x ∷ xs) (cond b 0 (suc (position xs k))) ≡ Some k) (sym miss.0) (behind i (λ j f. at_position xs k j f) miss.1 e)
]
  where
    behind : (i : ℕ) → ((j : ℕ) → slice_get xs j ≡ Some k → slice_get xs (position xs k) ≡ Some k) → (x ≡ k → ⊥) → slice_get (x ∷ xs) i ≡ Some k → slice_get xs (position xs k) ≡ Some k
    behind zero more not e = absurd (not cc)
    behind (suc i) more not e = more i e

-- rising numbers stand once
pub once_rising : (xs : List ℕ) (i j k : ℕ) → IsStrictlyIncreasing xs → slice_get xs i ≡ Some k → slice_get xs j ≡ Some k → i ≡ j
once_rising xs i j k rising a b = elim (cases_lt i j) [
  | inl lt ↦ absurd (before i j a b lt)
  | inr le ↦ elim (cases_lt j i) [ inl lt ↦ absurd (before j i b a lt) | inr ge ↦ omega (arith, le, ge) ]
]
  where
    before : (m n : ℕ) → slice_get xs m ≡ Some k → slice_get xs n ≡ Some k → m < n → ⊥
    before m n e f lt =
        let less = AllPairs-from_increasing xs rising m n k lt (slice_get_within xs n k f) in
        let first = get_or_from_slice_get xs m k k e in
        let second = get_or_from_slice_get xs n k k f in
        omega (arith, less, first, second)
