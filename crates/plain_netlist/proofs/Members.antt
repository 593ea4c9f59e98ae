-- Members of lists, by place and by how the list was made; and numbers below n that are apart are n at most.
use Rattle.std.proofs.Common.{◌≡◌, ◌⊎◌, inl, inr, ℕ, zero, suc, ◌<◌, ◌≤◌, ◌==◌, true, false, List, [], ◌∷◌, ◌++◌, length, Some, slice_get, refl, sym, ap, subst}
use Rattle.std.specs.Prelude.{flat_map}
use Rattle.std.specs.List.{list_any, IsDistinct, AllByRecursion}
use Rattle.std.proofs.lemmas.Bool.Decides.{eqb_tells}
use Rattle.std.proofs.lemmas.Map.Steps.{length-le_from_distinct_below}
use Rattle.plain_netlist.specs.Lists.{IsListed, AreApart}

pub listed : {A : Type 0} (xs : List A) (i : ℕ) (x : A) → slice_get xs i ≡ Some x → IsListed x xs
listed [] i x e = absurd (let z : ⊥ = cc in z)
listed (y ∷ xs) zero x e = inl (let z : x ≡ y = cc in z)
listed (y ∷ xs) (suc i) x e = inr (listed xs i x e)

pub position : {A : Type 0} (xs : List A) (x : A) → IsListed x xs → (i : ℕ) × (slice_get xs i ≡ Some x)
position [] x h = absurd h
position (y ∷ xs) x (inl e) = (0, ap Some (sym e))
position (y ∷ xs) x (inr h) = let r = position xs x h in (suc r.0, r.1)

pub in_left : {A : Type 0} (xs ys : List A) (x : A) → IsListed x xs → IsListed x (xs ++ ys)
in_left [] ys x h = absurd h
in_left (y ∷ xs) ys x (inl h) = inl h
in_left (y ∷ xs) ys x (inr h) = inr (in_left xs ys x h)

pub in_right : {A : Type 0} (xs ys : List A) (x : A) → IsListed x ys → IsListed x (xs ++ ys)
in_right [] ys x h = h
in_right (y ∷ xs) ys x h = inr (in_right xs ys x h)

pub either_side : {A : Type 0} (xs ys : List A) (x : A) → IsListed x (xs ++ ys) → IsListed x xs ⊎ IsListed x ys
either_side [] ys x h = inr h
either_side (y ∷ xs) ys x (inl h) = inl (inl h)
either_side (y ∷ xs) ys x (inr h) = elim (either_side xs ys x h) [ inl a ↦ inl (inr a) | inr b ↦ inr b ]

pub in_all : {A B : Type 0} (f : A → List B) (xs : List A) (a : A) (b : B) → IsListed a xs → IsListed b (f a) → IsListed b (flat_map f xs)
in_all f [] a b h k = absurd h
in_all f (x ∷ xs) a b (inl h) k = in_left (f x) (flat_map f xs) b (subst (λ z. IsListed b (f z)) h k)
in_all f (x ∷ xs) a b (inr h) k = in_right (f x) (flat_map f xs) b (in_all f xs a b h k)

pub from_all : {A B : Type 0} (f : A → List B) (xs : List A) (b : B) → IsListed b (flat_map f xs) → (a : A) × IsListed a xs × IsListed b (f a)
from_all f [] b h = absurd h
from_all f (x ∷ xs) b h = elim (either_side (f x) (flat_map f xs) b h) [ inl k ↦ (x, inl refl, k) | inr k ↦ let r = from_all f xs b k in (r.0, inr r.1, r.2) ]

not_among : (x : ℕ) (xs : List ℕ) → (IsListed x xs → ⊥) → AllByRecursion (λ y. (x == y) ≡ false) xs
not_among x [] h = tt
not_among x (y ∷ xs) h = (elim (eqb_tells x y) [ inl k ↦ absurd (h (inl k.1)) | inr k ↦ k.0 ], not_among x xs (λ i. h (inr i)))

among : (x : ℕ) (xs : List ℕ) → list_any (λ y. x == y) xs ≡ true → IsListed x xs
among x [] h = absurd cc
among x (y ∷ xs) h = elim (eqb_tells x y) [
  | inl k ↦ inl k.1
  | inr k ↦ inr (among x xs (let g : list_any (λ z. x == z) (y ∷ xs) ≡ true = h in rw k.0 at g))
]

distinct : (xs : List ℕ) → AreApart xs → IsDistinct (λ x y. x == y) xs
unfolding IsDistinct
distinct [] h = tt
distinct (x ∷ xs) h = (not_among x xs h.0, distinct xs h.1)

pub few : (xs : List ℕ) (n : ℕ) → AreApart xs → ((x : ℕ) → IsListed x xs → x < n) → length xs ≤ n
few xs n apart low = length-le_from_distinct_below xs n (distinct xs apart) (λ q h. low q (among q xs h))
