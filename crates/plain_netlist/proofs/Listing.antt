-- Lists without repeats and rising lists, by places.
use Rattle.std.proofs.Common.{◌≡◌, inl, inr, ℕ, zero, suc, ◌<◌, List, [], ◌∷◌, Some, slice_get, refl, sym, ◌∙◌, ap, subst, arith}
use Rattle.plain_netlist.specs.Lists.{IsListed, AreApart, AreRising}
use Rattle.plain_netlist.proofs.Members.{listed, position}

-- a list without repeats has each of its items at one place
pub apart_at : {A : Type 0} (a : A) (xs : List A) (i j : ℕ) → AreApart xs → slice_get xs i ≡ Some a → slice_get xs j ≡ Some a → i ≡ j
apart_at a [] i j apart h g = cc
apart_at a (x ∷ xs) zero zero apart h g = refl
apart_at a (x ∷ xs) zero (suc j) apart h g = let e : x ≡ a = (let f : Some x ≡ Some a = h in cc) in absurd (apart.0 (subst (λ y. IsListed y xs) (sym e) (listed xs j a g)))
apart_at a (x ∷ xs) (suc i) zero apart h g = let e : x ≡ a = (let f : Some x ≡ Some a = g in cc) in absurd (apart.0 (subst (λ y. IsListed y xs) (sym e) (listed xs i a h)))
apart_at a (x ∷ xs) (suc i) (suc j) apart h g = ap suc (apart_at a xs i j apart.1 h g)

pub at_apart : {A : Type 0} (xs : List A) → ((i j : ℕ) (a : A) → slice_get xs i ≡ Some a → slice_get xs j ≡ Some a → i ≡ j) → AreApart xs
at_apart [] one = tt
at_apart (x ∷ xs) one = (
  (λ h. let r = position xs x h in let e = one zero (suc r.0) x refl r.1 in absurd (omega arith)),
  at_apart xs (λ i j a h g. let e = one (suc i) (suc j) a h g in omega arith),
)

-- in a rising list an earlier item comes before a later one
pub rising_at : {A : Type 0} (R : A → A → Type 0) (xs : List A) (i j : ℕ) (a b : A) → AreRising R xs → i < j → slice_get xs i ≡ Some a → slice_get xs j ≡ Some b → R a b
rising_at R [] i j a b rising lt h g = cc
rising_at R (x ∷ xs) zero zero a b rising lt h g = absurd (omega arith)
rising_at R (x ∷ xs) zero (suc j) a b rising lt h g = let e : x ≡ a = (let f : Some x ≡ Some a = h in cc) in subst (λ y. R y b) e (rising.0 b (listed xs j b g))
rising_at R (x ∷ xs) (suc i) zero a b rising lt h g = absurd (omega arith)
rising_at R (x ∷ xs) (suc i) (suc j) a b rising lt h g = rising_at R xs i j a b rising.1 (omega arith) h g

pub at_rising : {A : Type 0} (R : A → A → Type 0) (xs : List A) → ((i j : ℕ) (a b : A) → i < j → slice_get xs i ≡ Some a → slice_get xs j ≡ Some b → R a b) → AreRising R xs
at_rising R [] all = tt
at_rising R (x ∷ xs) all = (
  (λ y h. let r = position xs y h in all zero (suc r.0) x y (omega arith) refl r.1),
  at_rising R xs (λ i j a b lt h g. all (suc i) (suc j) a b (omega arith) h g),
)

-- it has no repeats where nothing comes before itself
pub rising_apart : {A : Type 0} (R : A → A → Type 0) (xs : List A) → ((a : A) → R a a → ⊥) → AreRising R xs → AreApart xs
rising_apart R [] not rising = tt
rising_apart R (x ∷ xs) not rising = ((λ h. not x (rising.0 x h)), rising_apart R xs not rising.1)

-- of two rising lists with the same items, where of two items at most one comes before the other, both are one
pub one_rising : {A : Type 0} (R : A → A → Type 0) → ((a b : A) → R a b → R b a → ⊥) → (xs ys : List A) → AreRising R xs → AreRising R ys → ((a : A) → IsListed a xs → IsListed a ys) → ((a : A) → IsListed a ys → IsListed a xs) → xs ≡ ys
one_rising R not [] [] h g to from = refl
one_rising R not [] (y ∷ ys) h g to from = absurd (from y (inl refl))
one_rising R not (x ∷ xs) [] h g to from = absurd (to x (inl refl))
one_rising R not (x ∷ xs) (y ∷ ys) h g to from =
    let first = first_same R not x y xs ys h g (to x (inl refl)) (from y (inl refl)) in
    let rest = one_rising R not xs ys h.1 g.1
    (λ a l. rest_of R not a x y xs ys h first l (to a (inr l)))
    (λ a l. rest_of R not a y x ys xs g (sym first) l (from a (inr l))) in
    cc
  where
    first_same : {A : Type 0} (R : A → A → Type 0) → ((a b : A) → R a b → R b a → ⊥) → (x y : A) (xs ys : List A) → AreRising R (x ∷ xs) → AreRising R (y ∷ ys) → IsListed x (y ∷ ys) → IsListed y (x ∷ xs) → x ≡ y
    first_same R not x y xs ys h g (inl e) k = e
    first_same R not x y xs ys h g (inr l) (inl e) = sym e
    first_same R not x y xs ys h g (inr l) (inr k) = absurd (not y x (g.0 x l) (h.0 y k))

    rest_of : {A : Type 0} (R : A → A → Type 0) → ((a b : A) → R a b → R b a → ⊥) → (a x y : A) (xs ys : List A) → AreRising R (x ∷ xs) → x ≡ y → IsListed a xs → IsListed a (y ∷ ys) → IsListed a ys
    rest_of R not a x y xs ys h e l (inl f) = let before = h.0 a l in let self = subst (λ z. R x z) (f ∙ sym e) before in absurd (not x x self self)
    rest_of R not a x y xs ys h e l (inr k) = k
